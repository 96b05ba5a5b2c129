-- Rounds only split: what a round has together, every earlier one has.
use Rattle.std.specs.Prelude.{◌≡◌, ℕ, zero, suc, ◌≤◌, eqb}
use Rattle.std.proofs.Common.{sym, subst, arith, eqb-true}
use Rattle.std.proofs.lemmas.Bool.{eqb-false}
use Rattle.list_laws.specs.TestLaws.{Tested, tested, passes, fails}
use Rattle.refinement.specs.Refinement.{Transitions, Round}

module _ (T : Transitions) where
  open T use {State}

  pub round_earlier : (m n : ℕ) (p q : State) → n ≤ m → Round T m p q → Round T n p q
  round_earlier zero n p q l h = let e : 0 ≡ n = omega arith in subst (λ (i : ℕ). Round T i p q) e h
  round_earlier (suc m) n p q l h = go (round_earlier m n p q) (tested (eqb n (suc m)))
    where
      go : (n ≤ m → Round T m p q → Round T n p q) → Tested (eqb n (suc m)) → Round T n p q
      go ih (passes y) = subst (λ (i : ℕ). Round T i p q) (sym (eqb-true n (suc m) y)) h
      go ih (fails y) = ih (omega (arith, eqb-false n (suc m) y)) h.0
