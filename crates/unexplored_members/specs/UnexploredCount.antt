-- How many of the first ids are unexplored: exploring a member leaves one fewer.
use Rattle.std.proofs.Math.Path.{◌≡◌, refl, ap, ap₂}
use Rattle.std.proofs.Common.{◌∙◌, arith}
use Rattle.std.specs.Prelude.{Bool, List}
use Rattle.std.proofs.Math.Bool.{true, false, cond}
use Prim.Native.Nat.{ℕ, zero, suc, ◌+◌, ◌≤◌, ◌<◌}
use Rattle.std.proofs.Math.ListN.{get_or}
use Rattle.std.proofs.Math.Dec.{eqb}
use borrow.Author.Tests.{eqb-true, eqb-false, eq-eqb, ne_eqb}
use Rattle.unexplored_members.specs.UnexploredMembers.{IsExplored}
use Rattle.work_layout.specs.WorkLayout.{spans_at, member_room}

-- of the ids below k
unfoldable pub unexplored_below : List ℕ → ℕ → ℕ
unexplored_below w zero = 0
unexplored_below w (suc k) = cond (eqb (get_or w (spans_at + k) 0) 0) 1 0 + unexplored_below w k

module _ (v w : List ℕ) (id : ℕ) (same : (i : ℕ) → i < member_room → (i ≡ id → ⊥) → get_or w (spans_at + i) 0 ≡ get_or v (spans_at + i) 0) where
  count_same : (k : ℕ) → k ≤ id → k ≤ member_room → unexplored_below w k ≡ unexplored_below v k
  unfolding unexplored_below
  count_same zero h l = refl
  count_same (suc k) h l =
      ap₂ ◌+◌ (ap (λ (n : ℕ). cond (eqb n 0) 1 0) (same k (omega arith) (λ e. omega arith))) (count_same k (omega arith) (omega arith))

  -- one fewer
  count_less : get_or v (spans_at + id) 0 ≡ 0 → IsExplored w id → (k : ℕ) → id < k → k ≤ member_room → unexplored_below w k < unexplored_below v k
  unfolding unexplored_below
  count_less z e zero h l = absurd (omega arith)
  count_less z e (suc k) h l = go (λ p. count_less z e k p (omega arith)) (eqb k id) refl
    where
      go : (id < k → unexplored_below w k < unexplored_below v k) → (b : Bool) → eqb k id ≡ b
          → cond (eqb (get_or w (spans_at + k) 0) 0) 1 0 + unexplored_below w k < cond (eqb (get_or v (spans_at + k) 0) 0) 1 0 + unexplored_below v k
      go ih true q =
          let i : k ≡ id = eqb-true k id q in
          let a : get_or v (spans_at + k) 0 ≡ 0 = ap (λ (n : ℕ). get_or v (spans_at + n) 0) i ∙ z in
          let b : get_or w (spans_at + k) 0 ≡ get_or w (spans_at + id) 0 = ap (λ (n : ℕ). get_or w (spans_at + n) 0) i in
          let p : ◌≡◌ {A = ℕ} (cond (eqb (get_or v (spans_at + k) 0) 0) 1 0) 1 = ap (λ (t : Bool). cond {A = ℕ} t 1 0) (eq-eqb (get_or v (spans_at + k) 0) 0 a) in
          let r : ◌≡◌ {A = ℕ} (cond (eqb (get_or w (spans_at + k) 0) 0) 1 0) 0 =
          ap (λ (t : Bool). cond {A = ℕ} t 1 0) (ne_eqb (get_or w (spans_at + k) 0) 0 (λ x. omega (arith, e, b, x))) in
          omega (arith, p, r, count_same k (omega arith) (omega arith))
      go ih false q =
          let n : k ≡ id → ⊥ = eqb-false k id q in
          let p : ◌≡◌ {A = ℕ} (cond (eqb (get_or w (spans_at + k) 0) 0) 1 0) (cond (eqb (get_or v (spans_at + k) 0) 0) 1 0) =
          ap (λ (m : ℕ). cond {A = ℕ} (eqb m 0) 1 0) (same k (omega arith) n) in
          omega (arith, p, ih (omega arith))

  pub unexplored_less : get_or v (spans_at + id) 0 ≡ 0 → IsExplored w id → id < member_room → unexplored_below w member_room < unexplored_below v member_room
  unexplored_less z e h = count_less z e member_room h (omega arith)
