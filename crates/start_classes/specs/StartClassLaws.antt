-- A member's class read at the place where the member is found, and the bytes of the starts in other words.
use Rattle.std.specs.Prelude.{◌≡◌, refl, ℕ, zero, suc, ◌+◌, ◌*◌, ◌<◌, length, get_or}
use Rattle.std.proofs.Common.{sym, ap, ◌∙◌, subst, arith}
use mathlib.Core.List.{List, [], ◌∷◌, ◌++◌, map, Memᴰ}
use Rattle.packing.specs.Lists.{concat_map}
use Rattle.packing.specs.Tabulate.{tabulate, tabulate_at}
use Rattle.sheet_types.specs.Sheet as spec
use Rattle.packing.specs.SheetBytes.{word_bytes}
use Rattle.work_layout.specs.Classes.{place_of}
use Rattle.packing.specs.declared.Numbers.{Numbers}
use Rattle.packing.specs.Packing.{stands_for, PackedIn}
use Rattle.sheet_types.specs.declared.Configuration.{Configuration}
use Rattle.sheet_types.specs.HeldSheet.{configuration, no_configuration, starts_in}
use Rattle.work_layout.specs.SetLayout.{member_at, set_in}
use Rattle.work_layout.specs.ClassLayout.{class_in, classes_in}
use Rattle.dominators.specs.FoundMembers.{FoundAt, found_there}
use Rattle.report_bytes.specs.BytesStored.{joined, joined_length}
use Rattle.report_bytes.specs.ReportInSliceLaws.{joined_alike, place_is}
use Rattle.start_classes.specs.StartClasses.{class_held, start_bytes_at, starts_part, MemberHeld, StartsHeld}

-- a start that is held
pub start_held : {w : List ℕ} {n : ℕ} {starts : List Configuration} {k i : ℕ} → StartsHeld w n starts k → i < k
    → MemberHeld w n (get_or starts i no_configuration)
start_held {i = i} h l = record { set = h.set; threads = h.threads i l; there = h.there i l }

-- the place found is that of the member, and its class stands there
module _ (w : List ℕ) (n : ℕ) (p : Configuration) (h : MemberHeld w n p) (x : Numbers) (e : PackedIn x × (stands_for x ≡ configuration p)) (r : ℕ)
    (f : FoundAt w n x r) where
  found : (r < n) × (member_at w r ≡ stands_for x)
  found =
      found_there f h.set.ordered e.0 (subst (λ (c : spec.Configuration). Memᴰ c (set_in w n)) (sym e.1) h.there)

  pub found_class : class_in w r ≡ class_held w n (configuration p)
  found_class =
      let place : place_of (set_in w n) (configuration p) ≡ r =
      ap (place_of (set_in w n)) (sym (found.1 ∙ e.1)) ∙ place_is (member_at w) n h.set.ordered.ascends r found.0 in
      sym (tabulate_at (class_in w) n r 0 found.0) ∙ ap (λ (i : ℕ). get_or (classes_in w n) i 0) (sym place)

-- two bytes for each start
pub starts_length : (w : List ℕ) (n : ℕ) (starts : List Configuration) (k : ℕ) → length (starts_part w n starts k) ≡ 2 * k
unfolding tabulate
starts_length w n starts zero = refl
starts_length w n starts (suc k) =
    let e : suc k ≡ k + 1 = omega arith in
    omega (
      arith,
      ap (λ (j : ℕ). length (joined (start_bytes_at w n starts) j)) e,
      joined_length (start_bytes_at w n starts) k,
      starts_length w n starts k,
    )

mapped_bytes : (f : spec.Configuration → ℕ) (ps : List spec.Configuration) → concat_map (λ p. word_bytes (f p)) ps ≡ concat_map word_bytes (map f ps)
mapped_bytes f [] = refl
mapped_bytes f (p ∷ ps) = ap (λ (l : List ℕ). word_bytes (f p) ++ l) (mapped_bytes f ps)

-- the bytes are those of the classes of the starts
pub starts_bytes : (w : List ℕ) (n : ℕ) (starts : List Configuration) (k : ℕ)
    → starts_part w n starts k ≡ concat_map word_bytes (map (class_held w n) (starts_in starts k))
starts_bytes w n starts k =
    joined_alike (λ p. word_bytes (class_held w n p)) (λ i. configuration (get_or starts i no_configuration)) (start_bytes_at w n starts) k (λ i l. refl)
    ∙ mapped_bytes (class_held w n) (starts_in starts k)
