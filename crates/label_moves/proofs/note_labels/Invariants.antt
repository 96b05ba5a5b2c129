-- The loop of `note_labels` notes the label that stands at each place, which noting leaves alone: so far those before place i are noted.
use Prim.Native.Nat.{◌≤◌}
use Rattle.threads_beside.specs.ThreadsBeside.{node_beside}
use Rattle.walk_state.specs.NotedInWalk.{NotedAll}
use Rattle.label_moves.specs.LabelMoves.{label_moves}
use Rattle.label_moves.proofs.note_labels.Given as goal

abbrev pub invariant-loop-i : goal.invariant-loop-i
invariant-loop-i l =
    (l.from ≤ l.i) × (l.i ≤ l.end)
    × NotedAll l.initial.work l.b.first l.initial.run l.b.caps (label_moves l.initial.work l.b.store (node_beside l.e).threads l.from l.i) l.work l.run
