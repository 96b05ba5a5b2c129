-- After i turns the first i numbers are mixed in.
use Rattle.set_text.specs.SetTextLaws.{mix_none, mix_next}
use Rattle.set_text.proofs.mix_numbers.Goals as goal

pub loop-i-init : goal.loop-i-init
loop-i-init c = mix_none c.args.work.now c.args.from c.args.sum

pub loop-i-preserved : goal.loop-i-preserved
loop-i-preserved c =
    let args = c.args in
    let at-loop = c.loop-i in
    rw (c.mixed-s.ensures, c.number_at.ensures, at-loop.invariant) (mix_next args.work.now args.from at-loop.i args.sum)
