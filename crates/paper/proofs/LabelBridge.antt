-- The labels that document 01 computes for an ask are those of the paper's rule LR2: the minimal constraints that, joined with
-- the store, entail the asked one.
use Rattle.std.specs.Prelude.{◌≡◌, refl, ◌↔◌, Bool, not, ◌&&◌}
use borrow.Author.Tests.{not-true}
use Rattle.std.proofs.Math.Bool.{true, false}
use mathlib.Core.List.{Memᴰ}
use Prim.Native.Nat.{ℕ}
use Rattle.comparison_laws.specs.TestLaws.{true_false, and_left, and_right, and_intro, not_passes}
use Rattle.comparison_laws.specs.Lists.{any}
use Rattle.comparison_laws.specs.Members.{mem_select, select_mem, any_yes, any_no}
use Rattle.comparison_laws.specs.Stores.{join, strictly_below}
use Rattle.comparison_laws.specs.StoreLaws.{includes_within, within_includes, below_within, within_below}
use Rattle.comparison_laws.specs.Sheet.{Sheet}
use Rattle.comparison_laws.specs.Moves.{constraints, is_minimal, makes_true, labels}
use Rattle.comparison_laws.specs.LabelLaws.{constraints_all, constraints_only}
use Rattle.paper.specs.Tables.{Minimal}

module _ (s : Sheet) (d c : ℕ) where
  -- b is a candidate that is strictly below a
  abbrev lower : ℕ → ℕ → Bool
  lower a b = makes_true s d c b && strictly_below b a

  label_is_minimal : (a : ℕ) → Memᴰ a (labels s d c) → Minimal s d c a
  unfolding labels
  label_is_minimal a m =
      let x = mem_select (is_minimal (makes_true s d c) (constraints s)) (constraints s) m in
      let none : any (lower a) (constraints s) ≡ false =
      not-true (any (lower a) (constraints s)) (and_right (makes_true s d c a) (not (any (lower a) (constraints s))) x.1) in
      record {
        constraint = constraints_only s x.0;
        entails = includes_within (join s.rules d a) c (and_left (makes_true s d c a) (not (any (lower a) (constraints s))) x.1);
        minimal = λ b cb w l.
            true_false (lower a b) (and_intro (within_includes w) (within_below l.0 l.1))
            (any_no (lower a) (constraints s) none (constraints_all s b cb));
      }

  minimal_is_label : (a : ℕ) → Minimal s d c a → Memᴰ a (labels s d c)
  unfolding labels
  minimal_is_label a h =
      select_mem (is_minimal (makes_true s d c) (constraints s)) (constraints s) (constraints_all s a h.constraint)
      (and_intro (within_includes h.entails) (not_passes (go (any (lower a) (constraints s)) refl)))
    where
      go : (t : Bool) → any (lower a) (constraints s) ≡ t → any (lower a) (constraints s) ≡ false
      go false e = e
      go true e =
          let x = any_yes (lower a) (constraints s) e in
          let b : ℕ = x.0 in
          absurd (h.minimal b (constraints_only s x.1)
          (includes_within (join s.rules d b) c (and_left (makes_true s d c b) (strictly_below b a) x.2))
          (below_within b a (and_right (makes_true s d c b) (strictly_below b a) x.2)))

  pub labels_minimal : (a : ℕ) → Memᴰ a (labels s d c) ↔ Minimal s d c a
  labels_minimal a = (label_is_minimal a, minimal_is_label a)
