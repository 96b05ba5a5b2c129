-- Each turn takes one entry lower, which stays above x; it ends at an entry that is x, or at one that stays below x.
use Rattle.threads_beside.specs.Ranks.{rank_of}
use Rattle.nodes_to_visit.specs.NodesToVisit.{AboveFrom}
use Rattle.nodes_to_visit.proofs.spot_of.Given as goal

abbrev pub invariant-loop-i : goal.invariant-loop-i
invariant-loop-i l = AboveFrom rank_of l.work l.top l.n l.x l.i
