-- Laws of a loop that stores a number at one place after another.
use Rattle.std.specs.Prelude.{◌≡◌, List, ℕ, ◌+◌, ◌<◌, length, get_or, set, eqb}
use Rattle.std.proofs.Common.{sym, subst, arith, get_or-set_same, get_or-set_other, eqb-true}
use Rattle.std.proofs.lemmas.Bool.{eqb-false}
use Rattle.set_digits.specs.TestLaws.{Tested, passes, fails, tested}
use Rattle.set_digits.specs.Frames.{SameOutside, outside_set, outside_wider, outside_again}

module _ (at n : ℕ) (v : List ℕ) (r : ℕ) where
  -- what holds of each number stored before and of the next one holds of one more
  pub stored_each : (P : ℕ → ℕ → Type 0) → at + n < length v → ((j : ℕ) → j < n → P j (get_or v (at + j) 0)) → P n r
      → (j : ℕ) → j < n + 1 → P j (get_or (set v (at + n) r) (at + j) 0)
  stored_each P l f p j h = go (tested (eqb j n))
    where
      go : Tested (eqb j n) → P j (get_or (set v (at + n) r) (at + j) 0)
      go (passes e) =
          let z : n ≡ j = sym (eqb-true j n e) in
          subst (λ (i : ℕ). P i (get_or (set v (at + n) r) (at + i) 0)) z (subst (P n) (sym (get_or-set_same v (at + n) r 0 l)) p)
      go (fails e) =
          let z = eqb-false j n e in
          subst (P j) (sym (get_or-set_other v (at + n) (at + j) r 0 (omega arith))) (f j (omega arith))

  -- the places beyond the next one are as they were
  pub stored_same : {w : List ℕ} → SameOutside at (at + n) w v → SameOutside at (at + (n + 1)) w (set v (at + n) r)
  stored_same s =
      outside_again (outside_wider s at (at + (n + 1)) (omega arith) (omega arith))
      (outside_set at (at + (n + 1)) v (at + n) r (omega arith) (omega arith))
