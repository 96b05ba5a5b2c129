-- A set holds no absent fact exactly where nothing is left of it after a shift by the number of facts.
use Rattle.std.specs.Prelude.{◌≡◌, refl, Bool, true, false, ℕ, ◌/◌, ◌^◌, ◌<◌, leb}
use Rattle.std.proofs.Math.Nat.{div-eq_of_lt, lt-div-mul-add}
use Rattle.std.proofs.Common.{arith, pow_pos, leb-false}
use Rattle.std.proofs.lemmas.Bool.{lt-leb}

pub shifted_none : (facts set : ℕ) → set / 2 ^ facts ≡ 0 → leb (2 ^ facts) set ≡ false
shifted_none facts set e =
    let h = lt-div-mul-add {a = set} {b = 2 ^ facts} (pow_pos facts) in
    let l : set < 2 ^ facts = omega (arith, rw e at h) in
    lt-leb _ _ l

pub shifted_some : (facts set : ℕ) → (set / 2 ^ facts ≡ 0 → ⊥) → leb (2 ^ facts) set ≡ true
shifted_some facts set ne = go (leb (2 ^ facts) set) refl
  where
    go : (b : Bool) → leb (2 ^ facts) set ≡ b → b ≡ true
    go true e = refl
    go false e = absurd (ne (div-eq_of_lt (leb-false _ _ e)))
