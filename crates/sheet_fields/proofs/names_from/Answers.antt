-- After i names what is left to read gives what the whole gives.
use Rattle.std.proofs.Common.{sym, ◌∙◌, arith}
use Rattle.sheet_laws.specs.FieldLaws.{name_gets, names_next}
use Rattle.sheet_fields.proofs.names_from.Goals as goal

pub loop-i-preserved : goal.loop-i-preserved
loop-i-preserved c =
    let a = c.args in
    let l = c.loop-i in (
      ((name_gets a.s.now l.next).holds _ _ (sym c.in_ok-next.ensures)).within,
      sym (names_next a.s.now a.n l.i l.next a.n (omega arith) (sym c.in_ok-next.ensures)) ∙ l.invariant.1,
    )
