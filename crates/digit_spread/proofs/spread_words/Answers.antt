-- The first w words are spread.
use Rattle.digit_spread.specs.WordLaws.{words_all}
use native.Mathlib.Omega.{arith}
use mathlib.Core.Path.{◌≡◌}
use Rattle.digit_spread.proofs.spread_words.Goals as goal

pub returns : goal.returns
returns c =
    let e : c.loop-w.w ≡ c.args.words = omega arith in
    words_all (rw e at c.loop-w.invariant.1)
