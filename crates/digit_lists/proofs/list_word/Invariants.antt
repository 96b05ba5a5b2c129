-- `list_word` goes from the lowest digit of the word up: the sets of the digits taken out are listed, and those of the rest follow.
use mathlib.Core.Path.{◌≡◌}
use mathlib.Core.List.{List, ◌++◌}
use Prim.Native.Nat.{ℕ, ◌^◌, ◌<◌}
use Rattle.digit_lists.specs.DigitLists.{word_sets}
use Rattle.digit_lists.specs.ListedBehind.{ListedBehind}
use Rattle.digit_lists.proofs.list_word.Given as goal

abbrev pub invariant-loop-rest : goal.invariant-loop-rest
invariant-loop-rest l =
    (l.rest < 2 ^ 32) × (done : List ℕ) × (done ++ word_sets l.i l.rest ≡ word_sets l.i l.x) × ListedBehind l.at l.n l.initial.work done l.m l.work

abbrev pub decreases-loop-rest : goal.decreases-loop-rest
decreases-loop-rest l = l.rest
