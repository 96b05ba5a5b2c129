-- `enter_seeds`: the members are the seeds entered so far.
use Rattle.sheet_types.specs.HeldSheet.{starts_in}
use Rattle.seed_members.specs.Seeds.{SeededOn}
use Rattle.seed_members.proofs.enter_seeds.Given as goal

abbrev pub invariant-loop-i : goal.invariant-loop-i
invariant-loop-i l = SeededOn l.initial.work l.caps (starts_in l.seeds l.i) l.work l.run
