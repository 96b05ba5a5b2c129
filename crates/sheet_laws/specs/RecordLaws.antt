-- Laws of readings in steps: one field after another, and one record after another, with a law for each way that a reader's
-- loop goes: no record is left, the next one is refused, or it is read and one fewer is left.
use Rattle.std.specs.Prelude.{◌≡◌, refl, List, [], ◌∷◌, ◌++◌}
use Rattle.std.proofs.Common.{ap, ◌∙◌}
use Prim.Native.Nat.{ℕ, suc, ◌+◌, ◌-◌, ◌≤◌, ◌<◌}
use native.Mathlib.Omega.{arith}
use Rattle.sheet_reading.specs.Reading.{Reading, got, refused, and_then, records_from}

-- ---- one field after another: what follows a value may be a part of its own
pub then_regroup : {A B C : Type 0} (r : Reading A) (f : A → ℕ → Reading B) (g : A → ℕ → Reading C) (h : B → ℕ → Reading C)
    → ((v : A) (next : ℕ) → g v next ≡ and_then (f v next) h) → and_then r g ≡ and_then (and_then r f) h
then_regroup (got v next) f g h e = e v next
then_regroup (refused number place) f g h e = refl

-- ---- n records, of which i are read
module _ {A : Type 0} (item : List A → ℕ → Reading A) where
  pub records_none : (n i : ℕ) (read : List A) (at : ℕ) → n ≤ i → records_from item (n - i) read at ≡ got read at
  unfolding records_from
  records_none n i read at h =
      let s : n - i ≡ 0 = omega arith in
      rw s

  pub records_refused : (n i : ℕ) (read : List A) (at number place : ℕ) → i < n → item read at ≡ refused number place
      → records_from item (n - i) read at ≡ refused number place
  unfolding records_from
  records_refused n i read at number place h e =
      let s : n - i ≡ suc (n - (i + 1)) = omega arith in
      rw (s, records_from, e)

  pub records_next : (n i : ℕ) (read : List A) (at next : ℕ) (r : A) → i < n → item read at ≡ got r next
      → records_from item (n - i) read at ≡ records_from item (n - (i + 1)) (read ++ (r ∷ [])) next
  unfolding records_from
  records_next n i read at next r h e =
      let s : n - i ≡ suc (n - (i + 1)) = omega arith in
      rw (s, records_from, e)
