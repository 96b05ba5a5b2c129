-- As many digits 1 as there are sets, at most 32.
use Prim.Native.Nat.{ℕ, ◌-◌, ◌*◌, ◌%◌, ◌^◌, ◌≤◌, ◌<◌}
use mathlib.Core.Path.{◌≡◌, ap, ◌∙◌}
use native.Mathlib.Omega.{arith}
use lib.Dec.{ltb}
use lib.Pow.{pow_mono, pow_pos}
use borrow.Author.Tests.{lt-ltb}
use Rattle.search_laws.specs.FactSets.{digit}
use Rattle.set_digits.specs.SetDigits.{bit}
use Rattle.set_digits.specs.WordDigits.{one_shifted, digit_ones}
use Rattle.set_digits.proofs.first_word.Goals as goal

sets_fit : (facts : ℕ) → facts < 5 → 1 * 2 ^ facts % 2 ^ 32 < 32
sets_fit facts h =
    let few : 2 ^ facts ≤ 2 ^ 4 = pow_mono {i = facts} {j = 4} (omega arith) in
    omega (arith, one_shifted facts 32 (omega arith))

power-fits : (facts : ℕ) → facts < 5 → 1 * 2 ^ (1 * 2 ^ facts % 2 ^ 32) % 2 ^ 32 ≡ 2 ^ (1 * 2 ^ facts % 2 ^ 32)
power-fits facts h = one_shifted (1 * 2 ^ facts % 2 ^ 32) 32 (sets_fit facts h)

pub overflow_shl-result : goal.overflow_shl-result
overflow_shl-result c = omega (arith, sets_fit c.args.facts c.if-facts-lt5.true)

pub overflow_sub-result : goal.overflow_sub-result
overflow_sub-result c =
    let n = c.args.facts in
    omega (arith, power-fits n c.if-facts-lt5.true, pow_pos (1 * 2 ^ n % 2 ^ 32))

pub returns-then-facts-lt5 : goal.returns-then-facts-lt5
returns-then-facts-lt5 c =
    let n = c.args.facts in
    record {
      digits = λ p h.
          ap (λ (x : ℕ). digit (x - 1) p) (power-fits n c.if-facts-lt5.true) ∙ digit_ones (1 * 2 ^ n % 2 ^ 32) p
          ∙ ap (λ (x : ℕ). bit (ltb p x)) (one_shifted n 32 (omega arith));
    }

pub returns : goal.returns
returns c =
    let n = c.args.facts in
    let many : 2 ^ 5 ≤ 2 ^ n = pow_mono {i = 5} {j = n} (omega arith) in
    record { digits = λ p h. digit_ones 32 p ∙ rw (lt-ltb p 32 h, lt-ltb p (2 ^ n) (omega arith)) }
