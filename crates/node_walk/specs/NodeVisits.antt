-- What a walk gives that goes on until no node is left to visit.
use Rattle.std.specs.Prelude.{◌≡◌, ℕ}
use mathlib.Core.List.{List, [], Memᴰ}
use Rattle.sheet_types.specs.Sheet.{Node}
use Rattle.nodes_to_visit.specs.Orders.{Move}
use Rattle.walk_state.specs.CollectedMoves.{Grown, moves_of}
use Rattle.walk_state.specs.SetGrowth.{Growth, InHand}
use Rattle.walk_state.specs.declared.Basis.{Basis}
use Rattle.walk_state.specs.declared.Walk.{Walk}
use Rattle.std.specs.Prelude.{Option, Some, None}
use Rattle.walk_state.specs.WalkState.{Walking, InReach, Covering, OnSheet, TurnOver}

-- no node is left to visit: all is in order, nothing is lost, and what was in reach is collected
pub record WalkedOn (rank : ℕ → ℕ) (nodes : List Node) (b : Basis) (v : List ℕ) (s : Walk) (w : List ℕ) (t : Walk) : Type 0 where
  pub walking : Walking rank w b t
  pub none_left : t.top ≡ 0
  pub grown : Grown v b.first s.running w t.running
  pub covering : (g : Growth) (h : InHand g) → OnSheet g nodes b v → Covering rank g h b v s [] → Covering rank g h b w t []
  pub collected : (g : Growth) (h : InHand g) → OnSheet g nodes b v → Covering rank g h b v s []
      → (m : Move) → InReach g b v s [] m → Memᴰ m (moves_of w b.first t.running)

-- by the answer: a walk that passes a cap is as a turn that does
abbrev pub WalkedAs : (ℕ → ℕ) → List Node → Basis → List ℕ → Walk → List ℕ → Option Walk → Type 0
WalkedAs rank nodes b v s w (Some t) = WalkedOn rank nodes b v s w t
WalkedAs rank nodes b v s w None = TurnOver rank nodes b v s [] w
