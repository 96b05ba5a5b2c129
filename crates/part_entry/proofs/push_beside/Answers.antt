-- A part whose mark is 0 is passed over; for any other the threads are joined, and it is entered with them where they are not too many.
use lib.ListN.{get_or}
use mathlib.Core.Path.{refl, sym, ◌∙◌}
use Rattle.threads_beside.specs.Ranks.{rank_of}
use Rattle.sheet_types.specs.NodeTable.{opened_of, movables_of}
use Rattle.sheet_types.specs.HeldSheet.{opened_in}
use Rattle.part_entry.specs.PartEntryLaws.{part_too_long, part_stored}
use mathlib.Core.Logic.{inl, inr}
use native.Mathlib.Omega.{arith}
use Rattle.part_entry.proofs.push_beside.Goals as goal

pub returns-then-movable_in-eq0 : goal.returns-then-movable_in-eq0
returns-then-movable_in-eq0 c = inl (record { still = sym c.movable_in.ensures ∙ c.if-movable_in-eq0.true; same = refl; walk = refl })

pub returns-in_err-at : goal.returns-in_err-at
returns-in_err-at c =
    let a = c.args in
    rw c.from_residual.ensures
    (part_too_long (opened_in (opened_of a.table.now) a.q) a.e a.b.caps.threads c.requires.6 c.requires.8
    (get_or (movables_of a.table.now) a.p 0) a.p (λ h. c.if-movable_in-eq0.false (c.movable_in.ensures ∙ h)) a.work.now c.in_err-at.ensures)

pub enter-next-requires : goal.enter-next-requires
enter-next-requires c =
    let x = c.in_ok-at.ensures in
    (c.requires.2, c.requires.3, omega (arith, x.fits, x.count, c.requires.5), c.requires.9)

pub returns : goal.returns
returns c =
    let a = c.args in
    let y = c.enter-next in
    inr (part_stored (opened_in (opened_of a.table.now) a.q) a.e a.b.caps.threads c.requires.6 c.requires.8
    (get_or (movables_of a.table.now) a.p 0) a.p (λ h. c.if-movable_in-eq0.false (c.movable_in.ensures ∙ h)) a.work.now
    c.in_ok-at.ensures a.s y.new.work (rank_of a.e.node) c.rank_of-rank.result y.result c.rank_of-rank.ensures y.ensures)
