-- `split_listed` gives one listed member after the other its class of the next round; all lines were worked out before.
use Rattle.class_splits.specs.SetLinesFound.{InList}
use Rattle.round_steps.specs.SplitRounds.{Splitting}
use Rattle.round_steps.proofs.split_listed.Given as goal

abbrev pub invariant-loop-j : goal.invariant-loop-j
invariant-loop-j l = Splitting l.initial.work l.n l.round l.old l.work l.count (InList l.list l.j)
