-- Every number above 4 is read as a kind as 4 is.
use Rattle.std.specs.Prelude.{◌≡◌, refl, Bool, true, false, ℕ, ◌<◌, min, eqb}
use Rattle.std.proofs.Common.{arith, eq-eqb, ne_eqb, eqb-true}
use Rattle.std.proofs.lemmas.Bool.{eqb-false}
use Rattle.sheet_types.specs.HeldSheet.{node_held}

-- a test for a number below 4
pub least_kind_test : (kind n : ℕ) → n < 4 → eqb (min kind 4) n ≡ eqb kind n
least_kind_test kind n h = go (eqb kind n) refl
  where
    go : (b : Bool) → eqb kind n ≡ b → eqb (min kind 4) n ≡ eqb kind n
    go true e =
        let k : kind ≡ n = eqb-true kind n e in
        let m : min kind 4 ≡ n = omega arith in
        rw e (eq-eqb (min kind 4) n m)
    go false e =
        let k = eqb-false kind n e in
        rw e (ne_eqb (min kind 4) n (λ m. k (omega arith)))

-- the node that is held
pub least_kind_held : (kind first second : ℕ) → node_held (min kind 4) first second ≡ node_held kind first second
least_kind_held kind first second =
    simp (least_kind_test kind 0 (omega arith), least_kind_test kind 1 (omega arith), least_kind_test kind 2 (omega arith), least_kind_test kind 3 (omega arith))
