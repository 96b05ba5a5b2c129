-- `trail` goes from pair to pair: the steps stored so far and those from the present pair are the trail of the definition.
use Rattle.trail_search.specs.FollowedTrail.{Following}
use Rattle.trail_search.proofs.trail.Given as goal

abbrev pub invariant-loop-k : goal.invariant-loop-k
invariant-loop-k l = Following l.initial.work l.n l.last l.p l.q l.work l.left l.right l.k
