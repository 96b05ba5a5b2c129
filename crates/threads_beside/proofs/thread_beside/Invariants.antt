-- From place i on each thread is moved to the place before it, so after the last one all but the thread at place i stand as before.
use Prim.Native.Nat.{◌≤◌}
use Rattle.threads_beside.specs.ThreadTakenOut.{Shifted}
use Rattle.threads_beside.proofs.thread_beside.Given as goal

abbrev pub invariant-loop-j : goal.invariant-loop-j
invariant-loop-j l = (l.j ≤ 7) × Shifted l.initial.threads l.i l.j l.threads
