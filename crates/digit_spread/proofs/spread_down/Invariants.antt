-- The sets are spread for the facts below b + 5.
use Prim.Native.Nat.{ℕ, ◌+◌, ◌≤◌}
use mathlib.Core.Path.{◌≡◌}
use mathlib.Core.List.{List}
use lib.ListN.{length}
use Rattle.set_digits.specs.SetDigits.{words_of}
use Rattle.digit_spread.specs.DigitSpread.{SpreadDown}
use Rattle.digit_spread.proofs.spread_down.Given as goal

abbrev SpreadOn : ℕ → ℕ → ℕ → List ℕ → List ℕ → Type 0
SpreadOn k at words u v = (w : List ℕ) → SpreadDown 5 at words w u → SpreadDown k at words w v

abbrev pub invariant-loop-b : goal.invariant-loop-b
invariant-loop-b l = (l.b ≤ l.facts) × (length l.work ≡ length l.initial.work) × SpreadOn (l.b + 5) l.at (words_of l.facts) l.initial.work l.work
