-- `find_lifted` looks for the numbers of the member that is meant: they are those of a configuration, as the two members' are.
use Rattle.packing.specs.declared.Numbers.{Numbers}
use Rattle.dominators.specs.FoundMembers.{lifted_found}
use native.Mathlib.Omega.{arith}
use Prim.Native.Nat.{◌+◌, ◌*◌, ◌%◌}
use mathlib.Core.Path.{ap}
use Rattle.dominators.proofs.find_lifted.Goals as goal

pub returns : goal.returns
returns c =
    let g = c.args in
    let k = c.key_at-key in
    lifted_found g.work.now g.n g.t g.u
    (record { a = c.store_at.result * 256 + k.result.a % 256; b = k.result.b; c = k.result.c })
    (omega (arith, c.store_at.ensures, ap (λ (z : Numbers). z.a) k.ensures))
    (ap (λ (z : Numbers). z.b) k.ensures) (ap (λ (z : Numbers). z.c) k.ensures) c.find_member.result c.find_member.ensures
