-- What each thread gives beside the others is collected in turn, and every move of the member is given by one of its threads.
use Prim.Native.Nat.{◌≤◌}
use Rattle.sheet_types.specs.NodeTable.{nodes_of}
use Rattle.sheet_types.specs.HeldSheet.{configuration, nodes_in}
use Rattle.threads_beside.specs.Ranks.{rank_of}
use Rattle.member_moves.specs.MovesFoundLaws.{SoFar}
use Rattle.member_moves.proofs.moves_of.Given as goal

abbrev pub invariant-loop-i : goal.invariant-loop-i
invariant-loop-i l =
    (l.i ≤ l.n) × SoFar rank_of (nodes_in (nodes_of l.table) l.b.nodes) l.b l.initial.work l.initial.cur (configuration l.e) l.i l.work l.cur
