-- `reply_to` goes through the moves of q: the best of those passed is kept.
use Rattle.trail_replies.specs.ReplyTests.{BestSoFar}
use Rattle.trail_replies.proofs.reply_to.Given as goal

abbrev pub invariant-loop-k : goal.invariant-loop-k
invariant-loop-k l = BestSoFar l.work l.last l.y l.q l.best l.k
