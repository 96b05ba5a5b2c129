-- Each turn stores the next digit to the right: the digits so far are those of the number over the power.
use borrow.Author.Rules.{rules}
use native.Mathlib.Omega.{arith}
use Prim.Native.Nat.{ℕ, ◌/◌}
use mathlib.Core.List.{[], ◌∷◌}
use mathlib.Core.Path.{◌≡◌, refl, sym, ap, ◌∙◌}
use native.Mathlib.Nat.{div-one}
use lib.ListN.{length-set}
use lib.Seq.{set-set}
use Rattle.printed_lines.specs.Decimal.{decimal}
use Rattle.text.specs.DecimalLaws.{decimal_one, decimal_some, decimal_short}
use Rattle.text.specs.Powers.{power_positive, power_tenth, digits_next, next_fits}
use Rattle.text.specs.Slices.{Stored}
use Rattle.text.specs.StoredText.{stored_then, stored_byte, stored_over, stored_length}
use Rattle.text.proofs.put_number.Goals as goal

pub nonzero_div-n : goal.nonzero_div-n
nonzero_div-n c = omega (arith, power_positive c.first_place-q.ensures.power)

pub loop-q-init : goal.loop-q-init
loop-q-init c =
    let args = c.args in
    let d = c.digit.result in
    let first = c.first_place-q.ensures in
    let one : decimal (args.n / c.first_place-q.result) ≡ d ∷ [] =
    decimal_one _ first.one_digit ∙ ap (λ (x : ℕ). x ∷ []) (omega (arith, first.one_digit)) in
    (search rules, first.power, rw one (record { place = refl; list = sym (set-set args.out.now args.at d d) }))

pub nonzero_div-n-in-loop-q : goal.nonzero_div-n-in-loop-q
nonzero_div-n-in-loop-q c = omega (arith, power_positive (power_tenth c.loop-q.invariant.1 c.loop-q-test.true).power)

pub bounds-out-next : goal.bounds-out-next
bounds-out-next c =
    let args = c.args in
    let l = c.loop-q in
    let s = l.invariant.2 in
    let more = next_fits args.n l.q (omega arith) l.invariant.1 c.loop-q-test.true (omega arith) in
    omega (arith, more.1, s.place, stored_length s, length-set args.out.now args.at c.digit.result)

pub overflow_add-next-in-loop-q : goal.overflow_add-next-in-loop-q
overflow_add-next-in-loop-q c =
    let l = c.loop-q in
    let more = next_fits c.args.n l.q (omega arith) l.invariant.1 c.loop-q-test.true (omega arith) in
    omega (arith, more.1, l.invariant.2.place)

pub loop-q-preserved : goal.loop-q-preserved
loop-q-preserved c =
    let at-loop = c.loop-q in
    let n = c.args.n in
    let p = at-loop.invariant.1 in
    let l = c.loop-q-test.true in (
      search rules,
      (power_tenth p l).power,
      rw (c.digit-in-loop-q.ensures, digits_next n at-loop.q p l (omega arith)) (stored_then at-loop.invariant.2 (stored_byte at-loop.out at-loop.next _)),
    )

pub returns : goal.returns
returns c =
    let args = c.args in
    let at-loop = c.loop-q in
    let last : at-loop.q ≡ 1 = omega (arith, power_positive at-loop.invariant.1) in
    let whole : args.n / at-loop.q ≡ args.n = rw last (div-one args.n) in
    let s : Stored args.out.now args.at (decimal args.n) at-loop.out at-loop.next =
    stored_over args.out.now args.at c.digit.result (decimal_some args.n) (rw whole at at-loop.invariant.2) in
    (s, omega (arith, s.place, decimal_short 19 args.n (omega arith)))
