-- `list_word` goes from the lowest digit of the word up: what is listed is below each digit that is left.
use Prim.Native.Nat.{ℕ, ◌+◌, ◌-◌, ◌*◌, ◌^◌, ◌≤◌, ◌<◌}
use mathlib.Core.Path.{◌≡◌, ap, ◌∙◌, subst}
use mathlib.Core.List.{List}
use native.Mathlib.Omega.{arith}
use lib.ListN.{length, length-set}
use lib.Bits.{bit_and, and_le_r}
use lib.Count.{count_trailing_zeros}
use Rattle.place_sets.specs.DigitLaws.{lowest}
use Rattle.place_sets.specs.Listing.{Partly, partly_room, partly_past, partly_put, partly_last}
use Rattle.place_sets.proofs.list_word.Goals as goal
use Rattle.place_sets.proofs.list_word.Goals.{then-i-n, else-i-n}

-- the listed places are no more than the numbers below that of the lowest digit left
room : {ws : List ℕ} {n k rest : ℕ} {old list : List ℕ} {a : ℕ} → Partly ws n k rest old list a → 0 < rest → rest < 2 ^ 64
    → a ≤ 64 * k + count_trailing_zeros 64 rest
room {rest = rest} p some fits = partly_room p (count_trailing_zeros 64 rest) (lowest 64 rest some fits).1.one

pub offset_bounds-list-a : goal.offset_bounds-list-a
offset_bounds-list-a c = omega (arith, room c.loop-rest.invariant.3 (omega arith) c.loop-rest.invariant.0)

pub bounds-list-a : goal.bounds-list-a
bounds-list-a c = omega (arith, room c.loop-rest.invariant.3 (omega arith) c.loop-rest.invariant.0)

pub overflow_add-a : goal.overflow_add-a
overflow_add-a c = omega (arith, room c.loop-rest.invariant.3 (omega arith) c.loop-rest.invariant.0)

pub loop-rest-preserved : goal.loop-rest-preserved
loop-rest-preserved c =
    let l = c.loop-rest in
    let some : 0 < l.rest = omega arith in
    let o = lowest 64 l.rest some l.invariant.0 in
    let fits : bit_and l.rest (l.rest - 1) < 2 ^ 64 = omega (arith, and_le_r l.rest (l.rest - 1)) in
    elim c.if-i-n.branch [
      | then-i-n w ↦ (
        fits,
        ap length w.list-is ∙ simp length-set l.invariant.1,
        omega (arith, w.a-is),
        rw (w.list-is, w.a-is) (partly_put l.invariant.3 o.1 o.0 w.if-i-n.true (omega (arith, room l.invariant.3 some l.invariant.0))),
      )
      | else-i-n w ↦ (
        fits,
        ap length w.list-is ∙ l.invariant.1,
        omega (arith, w.a-is),
        rw (w.list-is, w.a-is) (partly_past l.invariant.3 o.1 o.0 w.if-i-n.false),
      )
    ]

pub returns : goal.returns
returns c =
    let args = c.args in
    let l = c.loop-rest in
    let e : l.rest ≡ 0 = omega arith in (
      l.invariant.2,
      partly_last (subst (λ (r : ℕ). Partly args.set.now args.n args.k r args.list.now l.list l.a) e l.invariant.3),
    )
