-- `watch_member` goes from move to move; no place is taken out of a set.
use Rattle.round_lines.specs.WatchingMembers.{Watching}
use Rattle.round_lines.proofs.watch_member.Given as goal

abbrev pub invariant-loop-j : goal.invariant-loop-j
invariant-loop-j l = Watching l.work l.initial.sets l.width l.n l.i l.first l.j l.sets
