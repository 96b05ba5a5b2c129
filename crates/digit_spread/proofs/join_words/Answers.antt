-- The blocks before the q-th are joined.
use borrow.Author.Rules.{rules}
use Prim.Native.Nat.{◌+◌, ◌*◌, ◌^◌}
use Rattle.digit_spread.specs.DigitSpread.{RunJoined}
use Rattle.digit_spread.specs.JoinLaws.{blocks_next}
use Rattle.digit_spread.proofs.join_words.Goals as goal

pub loop-q-preserved : goal.loop-q-preserved
loop-q-preserved c =
    let l = c.loop-q in
    let a = c.args in
    let e = l.invariant.0 in
    let r : RunJoined (a.at + 2 * l.q * 2 ^ a.b) (2 ^ a.b) (2 ^ a.b) l.work c.join_runs.new.work =
    rw e at c.join_runs.ensures in
    (e, search rules, blocks_next l.q l.invariant.2 r)
