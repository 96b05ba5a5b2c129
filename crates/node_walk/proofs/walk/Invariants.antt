-- Each turn loses nothing that is in reach and leaves less to do: once no node is left to visit, all that was in reach is collected.
use Rattle.threads_beside.specs.Ranks.{rank_of}
use Rattle.sheet_types.specs.NodeTable.{nodes_of}
use Rattle.sheet_types.specs.HeldSheet.{nodes_in}
use Rattle.nodes_to_visit.specs.NodesToVisit.{pending_in}
use Rattle.nodes_to_visit.specs.NodesToVisitLaws.{weight}
use Rattle.node_walk.specs.NodeVisitLaws.{Onward}
use Rattle.node_walk.proofs.walk.Given as goal

abbrev pub invariant-loop-cur : goal.invariant-loop-cur
invariant-loop-cur l = Onward rank_of (nodes_in (nodes_of l.table) l.b.nodes) l.b l.initial.work l.initial.cur l.work l.cur

abbrev pub decreases-loop-cur : goal.decreases-loop-cur
decreases-loop-cur l = weight rank_of (pending_in l.work l.cur.top)
