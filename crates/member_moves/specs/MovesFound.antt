-- The moves of one member, all of them and no other, collected in the work slice.
use Rattle.std.specs.Prelude.{◌≡◌, ℕ, ◌+◌, ◌<◌}
use mathlib.Core.List.{List, [], Memᴰ}
use Rattle.nodes_to_visit.specs.Frames.{SameOutside}
use Rattle.sheet_types.specs.Sheet.{Node, Configuration}
use Rattle.nodes_to_visit.specs.Orders.{Move}
use Rattle.nodes_to_visit.specs.Moves.{moves}
use Rattle.threads_beside.specs.NodeMoves.{placed_moves}
use Rattle.nodes_to_visit.specs.Promise.{PassesLimit}
use Rattle.walk_state.specs.CollectedMoves.{Grown, moves_of}
use Rattle.walk_state.specs.SetGrowth.{Growth, InHand, Gathered}
use Rattle.threads_beside.specs.ThreadsBeside.{thread_at}
use Rattle.walk_state.specs.declared.Basis.{Basis}
use Rattle.walk_state.specs.declared.Walk.{Walk}
use Rattle.std.specs.Prelude.{Option, Some, None}
use Rattle.walk_state.specs.WalkState.{Walking, Covering, OnSheet}
use Rattle.nodes_to_visit.specs.WorkLayout.{work_end, moves_at}

-- what was collected are moves of the member, and every move of the member is collected
pub record Collected (g : Growth) (h : InHand g) (b : Basis) (w : List ℕ) (t : Walk) : Type 0 where
  pub gathered : Gathered g h w b.first t.running
  pub whole : (m : Move) → Memᴰ m (moves g.sheet h.member) → Memᴰ m (moves_of w b.first t.running)

-- all moves of the member e are found
pub record FoundOn (rank : ℕ → ℕ) (nodes : List Node) (b : Basis) (v : List ℕ) (s : Walk) (e : Configuration) (w : List ℕ) (t : Walk) : Type 0 where
  pub walking : Walking rank w b t
  pub none_left : t.top ≡ 0
  pub grown : Grown v b.first s.running w t.running
  pub collected : (g : Growth) (h : InHand g) → OnSheet g nodes b v → h.member ≡ e → Gathered g h v b.first s.running → Collected g h b w t

-- a cap is passed: then the set passes a limit
pub record FoundOver (nodes : List Node) (b : Basis) (v : List ℕ) (s : Walk) (e : Configuration) (w : List ℕ) : Type 0 where
  pub passes : (g : Growth) (h : InHand g) → OnSheet g nodes b v → h.member ≡ e → Gathered g h v b.first s.running
      → PassesLimit g.sheet g.limits g.seeds
  pub outside : SameOutside (moves_at + b.first) work_end v w

-- by the answer
abbrev pub MovesFound : (ℕ → ℕ) → List Node → Basis → List ℕ → Walk → Configuration → List ℕ → Option Walk → Type 0
MovesFound rank nodes b v s e w (Some t) = FoundOn rank nodes b v s e w t
MovesFound rank nodes b v s e w None = FoundOver nodes b v s e w

-- ---- thread by thread
-- what the threads below place i give is collected
pub record FoundBelow (rank : ℕ → ℕ) (g : Growth) (h : InHand g) (b : Basis) (e : Configuration) (i : ℕ) (w : List ℕ) (t : Walk) : Type 0 where
  pub covering : Covering rank g h b w t []
  pub found : (j : ℕ) → j < i → (m : Move) → Memᴰ m (placed_moves g.sheet b.store (thread_at e j))
      → Memᴰ m (moves_of w b.first t.running)

-- one thread more
pub record NextOn (rank : ℕ → ℕ) (nodes : List Node) (b : Basis) (v : List ℕ) (s : Walk) (e : Configuration) (i : ℕ) (w : List ℕ) (t : Walk) : Type 0 where
  pub walking : Walking rank w b t
  pub none_left : t.top ≡ 0
  pub grown : Grown v b.first s.running w t.running
  pub next : (g : Growth) (h : InHand g) → OnSheet g nodes b v → h.member ≡ e → FoundBelow rank g h b e i v s → FoundBelow rank g h b e (i + 1) w t

pub record NextOver (rank : ℕ → ℕ) (nodes : List Node) (b : Basis) (v : List ℕ) (s : Walk) (e : Configuration) (i : ℕ) (w : List ℕ) : Type 0 where
  pub passes : (g : Growth) (h : InHand g) → OnSheet g nodes b v → h.member ≡ e → FoundBelow rank g h b e i v s
      → PassesLimit g.sheet g.limits g.seeds
  pub outside : SameOutside (moves_at + b.first) work_end v w

-- by the answer
abbrev pub NextFound : (ℕ → ℕ) → List Node → Basis → List ℕ → Walk → Configuration → ℕ → List ℕ → Option Walk → Type 0
NextFound rank nodes b v s e i w (Some t) = NextOn rank nodes b v s e i w t
NextFound rank nodes b v s e i w None = NextOver rank nodes b v s e i w
