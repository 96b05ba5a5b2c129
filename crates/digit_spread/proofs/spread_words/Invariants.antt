-- The first w words are spread.
use Rattle.digit_spread.specs.WordLaws.{WordsSpread}
use Prim.Native.Nat.{◌≤◌}
use Rattle.digit_spread.proofs.spread_words.Given as goal

abbrev pub invariant-loop-w : goal.invariant-loop-w
invariant-loop-w l = (l.w ≤ l.words) × WordsSpread l.at l.w l.initial.work l.work
