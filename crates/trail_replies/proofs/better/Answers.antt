-- `better` keeps the best so far unless move x has the label of y and is the only one or separated later.
use Rattle.telling_moves.specs.TrailTests.{pair_apart_fits}
use Rattle.trail_replies.proofs.better.Goals as goal

pub apart_at-requires : goal.apart_at-requires
apart_at-requires c = pair_apart_fits (rw c.in-Some.is at c.requires.1)
