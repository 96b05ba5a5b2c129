-- Each turn stores one thread after a plus sign: after i of them the first i threads stand in the slice.
use Prim.Native.Nat.{◌+◌, ◌*◌, ◌≤◌}
use Rattle.comparison.specs.Print.{more_threads}
use Rattle.text.specs.Slices.{Stored}
use Rattle.report_fields.specs.AnswerFields.{threads_in}
use Rattle.report_fields.proofs.put_more_threads.Given as goal

abbrev pub invariant-loop-i : goal.invariant-loop-i
invariant-loop-i l = (l.next ≤ l.at + 4 * l.i) × Stored l.initial.out l.at (more_threads (threads_in l.s l.from l.i)) l.out l.next
