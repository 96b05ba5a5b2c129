-- Each turn stores one thread: after i of them the first i threads stand in the slice.
use Prim.Native.Nat.{◌+◌}
use lib.ListN.{take}
use Rattle.text.specs.Slices.{Stored}
use Rattle.packing.specs.Packing.{eight_bytes}
use Rattle.report_records.proofs.put_threads.Given as goal

abbrev pub invariant-loop-i : goal.invariant-loop-i
invariant-loop-i l = Stored l.initial.out l.at (take l.i (eight_bytes l.b l.c)) l.out (l.at + l.i)
