-- The word, a field for each number and the line's end are stored one after another.
use native.Mathlib.Omega.{arith}
use Rattle.text.specs.StoredText.{line_begun, line_continued, line_ended, stored_length}
use Rattle.text.proofs.put_line.Goals as goal

pub loop-n-init : goal.loop-n-init
loop-n-init c = (line_begun c.args.numbers.now c.put_text-next.ensures, omega (arith, c.put_text-next.ensures.place))

pub put_field-next-requires : goal.put_field-next-requires
put_field-next-requires c = omega (arith, stored_length c.loop-n.invariant.0)

pub loop-n-preserved : goal.loop-n-preserved
loop-n-preserved c =
    let l = c.loop-n in
    let p = c.put_field-next.ensures in
    (line_continued c.args.word.now c.args.numbers.now l.n-index (omega arith) l.invariant.0 p.0, omega (arith, p.1))

pub put_end-requires : goal.put_end-requires
put_end-requires c = omega (arith, stored_length c.loop-n.invariant.0)

pub returns : goal.returns
returns c =
    let l = c.loop-n in
    (line_ended c.args.word.now c.args.numbers.now l.n-index (omega arith) l.invariant.0 c.put_end.ensures, omega (arith, c.put_end.ensures.place))
