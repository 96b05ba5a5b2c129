-- Each turn stores the line of one step: after i of them the lines of the first i steps stand in the slice.
use Prim.Native.Nat.{◌+◌, ◌*◌, ◌≤◌}
use mathlib.Core.Path.{◌≡◌}
use Rattle.text.specs.Slices.{Stored}
use Rattle.report_text.specs.Runs.{place_after}
use Rattle.report_text.specs.AnswerText.{step_end, steps_text}
use Rattle.report_text.proofs.step_lines.Given as goal

abbrev pub invariant-loop-i : goal.invariant-loop-i
invariant-loop-i l =
    (l.start + 7 * l.i ≡ place_after step_end l.start l.i) × (l.next ≤ l.at + 32 * l.i)
    × Stored l.initial.out l.at (steps_text l.s l.start l.i) l.out l.next
