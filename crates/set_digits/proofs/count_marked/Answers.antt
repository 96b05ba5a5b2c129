-- The sets marked in the first w words are counted.
use borrow.Author.Rules.{rules}
use native.Mathlib.Omega.{arith}
use Prim.Native.Nat.{◌+◌}
use lib.Count.{ones-le}
use lib.ListN.{get_or}
use Rattle.set_digits.specs.MarkedCounts.{counted_next}
use Rattle.set_digits.proofs.count_marked.Goals as goal

pub loop-w-preserved : goal.loop-w-preserved
loop-w-preserved c =
    let l = c.loop-w in
    let b = c.args in
    let x = get_or b.work.now (b.at + l.w) 0 in
    let fits = c.type_inv.work (b.at + l.w) in
    (search rules, omega (arith, ones-le 32 x fits.fits), omega (arith, counted_next b.work.now b.at l.w fits.fits))
