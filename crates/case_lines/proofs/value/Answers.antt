-- Each byte is a digit, and one digit more fits.
use Rattle.std.proofs.Common.{◌≡◌, ◌+◌, ◌*◌, ◌-◌, get_or, sym, arith}
use Rattle.case_lines.specs.Lines.{in_class}
use Rattle.case_lines.specs.declared.Class.TheVariants.{Digit}
use Rattle.case_lines.specs.LineLaws.{digits_more, digits_fit, value_none, value_next, all_at, between_within}
use Rattle.case_lines.proofs.value.Goals as goal

pub loop-b-init : goal.loop-b-init
loop-b-init c = (sym (value_none c.args.s.now), omega arith)

pub overflow_mul-n : goal.overflow_mul-n
overflow_mul-n c =
    let l = c.loop-b in
    omega (arith, digits_fit l.n l.b-index l.invariant.1 (omega arith))

pub overflow_add-n : goal.overflow_add-n
overflow_add-n c =
    let s = c.args.s.now in
    let l = c.loop-b in
    let d = between_within 48 57 (get_or s l.b-index 0) (all_at (in_class Digit) s c.requires.1 l.b-index (omega arith)) in
    omega (arith, d.below, c.from.ensures, digits_fit l.n l.b-index l.invariant.1 (omega arith))

pub loop-b-preserved : goal.loop-b-preserved
loop-b-preserved c =
    let s = c.args.s.now in
    let l = c.loop-b in
    let d = between_within 48 57 (get_or s l.b-index 0) (all_at (in_class Digit) s c.requires.1 l.b-index (omega arith)) in
    let more : 10 * l.n + c.from.result ≡ 10 * l.n + (get_or s l.b-index 0 - 48) = omega (arith, c.from.ensures) in
    rw more (rw (value_next s l.b-index (omega arith), sym l.invariant.0), digits_more l.n l.b-index (get_or s l.b-index 0) l.invariant.1 d.below)
