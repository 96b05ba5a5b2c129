-- A work slice that is too short is left as it is; otherwise the set is found, or it passes a limit and the slice is cleared.
use mathlib.Core.Path.{refl, subst}
use mathlib.Core.List.{List}
use Prim.Native.Nat.{ℕ}
use native.Mathlib.Omega.{arith}
use Rattle.std.specs.Prelude.{Option}
use Rattle.sheet_types.specs.HeldSheet.{starts_in, sheet_of}
use Rattle.found_set.specs.declared.SetSize.{SetSize}
use Rattle.found_set.specs.FoundSet.{limits_of, SetPasses, SetFound}
use Rattle.call_frame.specs.Begun.{too_short}
use Rattle.call_frame.specs.BegunLaws.{begun_large}
use Rattle.call_frame.proofs.begin_set.Goals as goal

pub returns-then-work-lt-WORK_END : goal.returns-then-work-lt-WORK_END
returns-then-work-lt-WORK_END c = rw c.at.ensures (too_short c.if-work-lt-WORK_END.true refl)

pub returns-in_default : goal.returns-in_default
returns-in_default c =
    let args = c.args in
    let find = c.find_set-found in
    let v : List ℕ = args.work.now in
    let found : SetPasses (sheet_of args.sheet) (limits_of args.caps) (starts_in args.seeds args.k) v find.new.work =
    subst (λ (r : Option SetSize). SetFound (sheet_of args.sheet) (limits_of args.caps) (starts_in args.seeds args.k) v find.new.work r)
    c.in_default.is find.ensures in
    rw c.at-in_default.ensures (begun_large (omega (arith, c.if-work-lt-WORK_END.false)) found c.clear_work.ensures)
