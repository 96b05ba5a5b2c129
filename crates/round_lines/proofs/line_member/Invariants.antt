-- `line_member` judges each move of the member in turn, and ends with as many lines as its irredundant moves have.
use Rattle.dominators.specs.SliceShapes.{SpanFits}
use Rattle.round_lines.specs.MemberLinesFound.{LiningMember}
use Rattle.round_lines.proofs.line_member.Given as goal

abbrev pub invariant-loop-j : goal.invariant-loop-j
invariant-loop-j l = SpanFits l.initial.work l.n l.first l.total × LiningMember l.initial.work l.n l.first l.total l.work l.end l.j
