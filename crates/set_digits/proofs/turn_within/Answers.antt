-- The first w words are turned.
use native.Mathlib.Omega.{arith}
use mathlib.Core.Bool.{cond}
use Prim.Native.Nat.{◌+◌, ◌/◌, ◌%◌}
use lib.Dec.{eqb}
use lib.ListN.{get_or}
use Rattle.set_digits.specs.SetDigits.{mark}
use Rattle.set_digits.specs.WordDigits.{digit_bit, digit_cleared}
use Rattle.set_digits.specs.FilledWords.{filled_marked}
use Rattle.set_digits.proofs.turn_within.Goals as goal

pub returns : goal.returns
returns c =
    let b = c.args in
    let v = b.work.now in
    filled_marked c.loop-w.invariant.1 b.words (omega arith) (λ s. cond (eqb (mark v b.to s) 1) 0 (mark v b.from s))
    (λ s h. digit_cleared (get_or v (b.to + s / 32) 0) (get_or v (b.from + s / 32) 0) (s % 32) (eqb (mark v b.to s) 1)
    (digit_bit (get_or v (b.to + s / 32) 0) (s % 32)))
