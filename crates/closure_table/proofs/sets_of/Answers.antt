-- At most 12 places to the left: no digit is lost.
use Prim.Native.Nat.{◌*◌, ◌%◌, ◌^◌, ◌≤◌}
use native.Mathlib.Omega.{arith}
use lib.Pow.{pow_mono, shl_exact}
use mathlib.Core.Path.{◌≡◌}
use Rattle.set_closure.specs.SheetLimits.{max_facts}
use Rattle.closure_table.proofs.sets_of.Goals as goal

pub returns : goal.returns
returns c =
    let n = c.args.facts in
    let few : 2 ^ n ≤ 2 ^ max_facts = pow_mono {i = n} {j = max_facts} (omega arith) in
    let exact : (1 * 2 ^ n) % 2 ^ 64 ≡ 1 * 2 ^ n = shl_exact {a = 1} 1 n 64 (omega arith) (omega arith) in
    (omega (arith, exact), omega (arith, exact, few))
