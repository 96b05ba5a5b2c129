-- Each reduction is passed once, and no class below the bound is taken.
use Prim.Native.Nat.{◌≤◌}
use Rattle.level_check.proofs.classes.least_reached.Given as goal

abbrev pub invariant-loop-m : goal.invariant-loop-m
invariant-loop-m l = l.low ≤ l.least
