-- Each turn stores the line of one member: after i of them the lines of the first i members stand in the slice.
use Prim.Native.Nat.{◌+◌, ◌*◌, ◌≤◌}
use mathlib.Core.Path.{◌≡◌}
use Rattle.text.specs.Slices.{Stored}
use Rattle.report_text.specs.AnswerText.{members_end, members_text}
use Rattle.report_text.proofs.member_lines.Given as goal

abbrev pub invariant-loop-i : goal.invariant-loop-i
invariant-loop-i l =
    (l.from ≡ members_end l.s l.i) × (l.from ≤ 2 + 13 * l.i) × (l.next ≤ l.at + 64 * l.i) × Stored l.initial.out l.at (members_text l.s l.i) l.out l.next
