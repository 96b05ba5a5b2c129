use lib.ListN.{get_or}
use Rattle.class_splits.specs.ClassedPlaces.{chosen_in}
use Prim.Native.Nat.{ℕ, ◌<◌}
use mathlib.Core.Path.{◌≡◌}
use Rattle.work_layout.specs.ClassLayout.{class_in}
use Rattle.round_steps.proofs.chosen_listed.Given as goal

abbrev pub invariant-loop-j : goal.invariant-loop-j
invariant-loop-j l = (i : ℕ) → i < l.j → chosen_in l.work (class_in l.work (get_or l.list i 0)) ≡ get_or l.list i 0 → ⊥
