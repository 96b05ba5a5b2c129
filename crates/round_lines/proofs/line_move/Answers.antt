-- `line_move` enters the line of an irredundant move; there is room, as there were no more lines than moves before.
use Rattle.round_lines.specs.MemberLinesFound.{moved_none, moved_entered, judged_ascends}
use native.Mathlib.Omega.{arith}
use Rattle.round_lines.proofs.line_move.Goals as goal

pub returns-then-not-irredundant : goal.returns-then-not-irredundant
returns-then-not-irredundant c =
    let g = c.args in
    let i = c.irredundant in
    moved_none g.work.now g.n g.first g.total g.j g.end c.requires.0 c.requires.1 (c.requires.2, c.requires.3) i.new.work i.result
    i.ensures (c.if-not-irredundant.true) c.requires.4

pub enter_number-requires : goal.enter_number-requires
enter_number-requires c =
    let g = c.args in
    let i = c.irredundant in (
      c.requires.2,
      omega arith,
      omega (arith, c.requires.0.span, c.requires.0.long, i.ensures.outside.long),
      judged_ascends g.work.now g.n g.first g.total g.j g.end c.requires.0 c.requires.1 (c.requires.2, c.requires.3) i.new.work
          i.result i.ensures c.requires.4,
    )

pub returns : goal.returns
returns c =
    let g = c.args in
    let i = c.irredundant in
    let l = c.line_of-line in
    let e = c.enter_number in
    moved_entered g.work.now g.n g.first g.total g.j g.end c.requires.0 c.requires.1 (c.requires.2, c.requires.3) i.new.work
    i.result i.ensures c.if-not-irredundant.false c.requires.4
    l.result l.ensures e.new.work e.result e.ensures c.unwrap_or.result c.unwrap_or.ensures
