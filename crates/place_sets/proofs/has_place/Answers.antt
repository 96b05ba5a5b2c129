-- `has_place` tells the place's digit.
use mathlib.Core.Path.{◌≡◌, ap}
use Prim.Native.Nat.{ℕ, ◌+◌, ◌/◌, ◌%◌, ◌^◌}
use native.Mathlib.Omega.{arith}
use lib.ListN.{get_or}
use lib.Dec.{eqb}
use Rattle.store_laws.specs.FactSets.{digit}
use Rattle.place_sets.proofs.has_place.Goals as goal

pub returns : goal.returns
unfolding digit
returns c =
    let g = c.args in
    let e : g.i / 64 ≡ 0 + g.i / 64 = omega arith in
    ap (λ (k : ℕ). eqb (get_or g.set.now k 0 / 2 ^ (g.i % 64) % 2) 1) e
