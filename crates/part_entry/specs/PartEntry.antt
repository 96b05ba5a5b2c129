-- What entering one part of a both among the nodes to visit gives, with its mark and the threads beside it.
use Rattle.std.specs.Prelude.{◌≡◌, ◌⊎◌, List, ℕ, ◌≤◌, ◌<◌, length}
use Rattle.sheet_types.specs.SortingLaws.{insert_all}
use Rattle.threads_beside.specs.NodeMoves.{NodeBeside}
use Rattle.nodes_to_visit.specs.NodesToVisit.{Entered}
use Rattle.walk_state.specs.declared.Walk.{Walk}
use Rattle.std.specs.Prelude.{Option, Some, None}
use Rattle.walk_state.specs.PushedInWalk.{topped}

-- node p with these threads put among those beside e
abbrev pub beside_of : ℕ → List ℕ → NodeBeside → NodeBeside
beside_of p threads e = record { node = p; threads = insert_all e.threads threads }

-- its mark is 0: it was passed over
pub record PassedOver (mark : ℕ) (v : List ℕ) (s : Walk) (w : List ℕ) (t : Walk) : Type 0 where
  pub still : mark ≡ 0
  pub same : w ≡ v
  pub walk : t ≡ s

-- its mark is not 0 and there are not too many threads: it is among the nodes to visit, the ones above it with ranks below n
pub record PartStored (rank : ℕ → ℕ) (mark : ℕ) (x : NodeBeside) (limit n : ℕ) (v : List ℕ) (s : Walk) (w : List ℕ) (t : Walk) : Type 0 where
  pub moves : mark ≡ 0 → ⊥
  pub few : length x.threads ≤ limit
  pub entered : Entered rank v s.top n x w t.top
  pub walk : t ≡ topped s t.top

-- its mark is not 0 and there are too many threads
pub record PartTooLong (mark : ℕ) (x : NodeBeside) (limit : ℕ) (v w : List ℕ) : Type 0 where
  pub moves : mark ≡ 0 → ⊥
  pub many : limit < length x.threads
  pub same : w ≡ v

-- by the answer
abbrev pub PartAs : (ℕ → ℕ) → ℕ → NodeBeside → ℕ → ℕ → List ℕ → Walk → List ℕ → Option Walk → Type 0
PartAs rank mark x limit n v s w (Some t) = PassedOver mark v s w t ⊎ PartStored rank mark x limit n v s w t
PartAs rank mark x limit n v s w None = PartTooLong mark x limit v w
