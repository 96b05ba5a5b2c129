-- The blocks before the q-th are joined.
use Prim.Native.Nat.{◌*◌, ◌^◌, ◌≤◌}
use mathlib.Core.Path.{◌≡◌}
use Rattle.digit_spread.specs.DigitSpread.{WordsJoined}
use Rattle.digit_spread.proofs.join_words.Given as goal

abbrev pub invariant-loop-q : goal.invariant-loop-q
invariant-loop-q l = (l.half ≡ 2 ^ l.b) × (l.q ≤ l.blocks) × WordsJoined l.b l.at (2 * l.q * 2 ^ l.b) l.initial.work l.work
