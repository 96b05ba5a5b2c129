-- A place in the order, found by halving.
use Rattle.std.specs.Prelude.{Result, Ok, Err, ◌≡◌, true, List, ℕ, ◌+◌, ◌≤◌, ◌<◌}
use Rattle.std.proofs.Common.{Ordering, Less, Equal, Greater, sym, ap, ◌∙◌, arith}
use Rattle.packing.specs.Halving.{Halving, halving_first, halving_upper, halving_lower, halving_last}
use Rattle.move_laws.specs.Sheet.{Configuration}
use Rattle.packing.specs.Orders.{configuration_before}
use Rattle.move_laws.specs.OrderLaws.{configuration_order}
use Rattle.packing.specs.declared.Numbers.{Numbers}
use Rattle.packing.specs.Packing.{side_of, stands_for, PackedIn}
use Rattle.packing.specs.Comparing.{compared}
use Rattle.packing.proofs.PackingLaws.{side_before, side_same, side_after, numbers_side}
use Rattle.member_table.specs.MemberTable.{numbers_in, id_in, placed_in, Kept}
use Rattle.packing.specs.TabulateLaws.{ascends_at}

-- the side of the member at place j, whose id is i
pub side_at : (w : List ℕ) (n j i : ℕ) (x key : Numbers) (r : Ordering) → Kept w n → PackedIn x → j < n → i ≡ id_in w j → key ≡ numbers_in w i
    → r ≡ compared key x
    → r ≡ side_of (configuration_before (placed_in w j) (stands_for x)) (configuration_before (stands_for x) (placed_in w j))
side_at w n j i x key r kept q h e f s =
    s
    ∙ ap (λ (z : Numbers). compared z x) (f ∙ ap (numbers_in w) e)
    ∙ numbers_side (numbers_in w (id_in w j)) x (kept.packed (id_in w j) (kept.ids j h)) q

-- p stands at a place of the order
pub record StandsAt (w : List ℕ) (n : ℕ) (p : Configuration) (at : ℕ) : Type 0 where
  pub within : at < n
  pub below : (j : ℕ) → j < at → configuration_before (placed_in w j) p ≡ true
  pub same : placed_in w at ≡ p

-- p stands nowhere, and is to be put in at this place
pub record MissingAt (w : List ℕ) (n : ℕ) (p : Configuration) (at : ℕ) : Type 0 where
  pub within : at ≤ n
  pub below : (j : ℕ) → j < at → configuration_before (placed_in w j) p ≡ true
  pub above : (j : ℕ) → at ≤ j → j < n → configuration_before p (placed_in w j) ≡ true

-- where p stands in the order, or is to be put in
abbrev pub Placed : List ℕ → ℕ → Configuration → Result ℕ ℕ → Type 0
Placed w n p (Ok at) = StandsAt w n p at
Placed w n p (Err at) = MissingAt w n p at

-- p is at none of the places below low and at none from high on
abbrev pub Halved : List ℕ → ℕ → Configuration → ℕ → ℕ → Type 0
Halved w n p low high =
    Halving (λ j. configuration_before (placed_in w j) p ≡ true) (λ j. configuration_before p (placed_in w j) ≡ true) 0 n low high

module _ (w : List ℕ) (n : ℕ) (p : Configuration) where
  pub halved_first : Halved w n p 0 n
  halved_first =
      halving_first (λ j. configuration_before (placed_in w j) p ≡ true) (λ j. configuration_before p (placed_in w j) ≡ true) 0 n (omega arith)

  pub placed_found : Kept w n → (mid : ℕ) → mid < n
      → side_of (configuration_before (placed_in w mid) p) (configuration_before p (placed_in w mid)) ≡ Equal → StandsAt w n p mid
  placed_found kept mid h e =
      let s = side_same (configuration_before (placed_in w mid) p) (configuration_before p (placed_in w mid)) e in
      let q : placed_in w mid ≡ p = configuration_order.total (placed_in w mid) p s.0 s.1 in
      record {
        within = h;
        below = λ j l. ap (configuration_before (placed_in w j)) (sym q) ∙ ascends_at configuration_order (placed_in w) n kept.ascends j mid l h;
        same = q;
      }

  -- ---- by the side of the middle
  module _ (mid : ℕ) (r : Ordering) (s : r ≡ side_of (configuration_before (placed_in w mid) p) (configuration_before p (placed_in w mid)))
      (kept : Kept w n) where
    pub found_side : mid < n → r ≡ Equal → StandsAt w n p mid
    found_side h e = placed_found kept mid h (sym s ∙ e)

    pub low_side : (low high : ℕ) → Halved w n p low high → low ≤ mid → mid < high → r ≡ Less → Halved w n p (mid + 1) high
    low_side low high b l h e =
        halving_upper b mid l h (side_before (configuration_before (placed_in w mid) p) (configuration_before p (placed_in w mid)) (sym s ∙ e))
        (λ j _ k t.
        configuration_order.transitive (placed_in w j) (placed_in w mid) p
        (ascends_at configuration_order (placed_in w) n kept.ascends j mid k (omega (arith, b.ends.2))) t)

    pub high_side : (low high : ℕ) → Halved w n p low high → low ≤ mid → mid < high → r ≡ Greater → Halved w n p low mid
    high_side low high b l h e =
        halving_lower b mid l h
        (side_after (configuration_before (placed_in w mid) p) (configuration_before p (placed_in w mid)) (sym s ∙ e))
        (λ j k m t.
        configuration_order.transitive p (placed_in w mid) (placed_in w j) t
        (ascends_at configuration_order (placed_in w) n kept.ascends mid j k m))

  pub placed_none : (low high : ℕ) → Halved w n p low high → high ≤ low → MissingAt w n p low
  placed_none low high b h =
      let found = halving_last b h in
      record { within = found.ends.2; below = λ j l. found.below j (omega arith) l; above = found.above }
