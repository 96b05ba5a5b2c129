-- Places gone through from a low one upwards: what holds of each one passed, and the first that is looked for.
use Rattle.std.specs.Prelude.{◌≡◌, ℕ, ◌+◌, ◌≤◌, ◌<◌, ltb}
use Rattle.std.proofs.Common.{subst, arith, ltb-true, ltb-false}
use Rattle.list_laws.specs.TestLaws.{Tested, tested, passes, fails}

-- P holds of each place from low on, below j
abbrev pub HoldsFrom : (ℕ → Type 0) → ℕ → ℕ → Type 0
HoldsFrom P low j = (i : ℕ) → low ≤ i → i < j → P i

module _ (P : ℕ → Type 0) (low : ℕ) where
  pub holds_none : HoldsFrom P low low
  holds_none i h l = absurd (omega arith)

  -- one place more
  pub holds_next : (j : ℕ) → HoldsFrom P low j → P j → HoldsFrom P low (j + 1)
  holds_next j f p i h l = go (tested (ltb i j))
    where
      go : Tested (ltb i j) → P i
      go (passes e) = f i h (ltb-true i j e)
      go (fails e) =
          let k : j ≤ i = ltb-false i j e in
          let z : j ≡ i = omega arith in
          subst P z p

-- r is the first place from low on, below n, that is looked for, n where there is none: those before it are passed
pub record FirstPlace (Passed Found : ℕ → Type 0) (low n r : ℕ) : Type 0 where
  pub within : (low ≤ r) × (r ≤ n)
  pub passed : HoldsFrom Passed low r
  pub here : r < n → Found r
