-- `add_to`: a target whose store has the label is what adding it gives, and a member; else the table has the joined store, and the
-- sum is entered, which belongs to the set since the move's label is strictly below the one added.
use mathlib.Core.Path.{subst, ◌≡◌, ap, ◌∙◌}
use Prim.Native.Nat.{ℕ}
use lib.Bits.{bit_and}
use Rattle.sheet_types.specs.HeldSheet.{configuration}
use Rattle.sheet_types.specs.Sheet as spec
use Rattle.collected_moves.specs.CollectedMoves.{EnteredAs}
use Rattle.third_rule.specs.ThirdRuleLaws.{id_in_lem, has_label, sum_in_table, sum_added}
use Rattle.third_rule.proofs.add_to.Goals as goal

pub key_of-x-requires : goal.key_of-x-requires
key_of-x-requires c =
    let g = c.args in
    (c.requires.0.collecting.kept, id_in_lem c.requires.0 g.i c.requires.1 c.requires.2)

pub returns-then-label-store : goal.returns-then-label-store
returns-then-label-store c =
    let g = c.args in
    let u = c.configuration_of-u in
    has_label g.b g.work.now g.s g.i g.label c.requires.0 c.requires.1 c.requires.2 c.requires.3
    u.result (u.ensures.0 ∙ c.key_of-x.ensures.1) c.if-label-store.true

pub add-sum-requires : goal.add-sum-requires
add-sum-requires c =
    let g = c.args in
    let u = c.configuration_of-u in
    sum_in_table g.b g.work.now g.s g.i g.label c.requires.0 c.requires.1 c.requires.2 c.requires.3
    u.result (u.ensures.0 ∙ c.key_of-x.ensures.1)

pub returns : goal.returns
returns c =
    let g = c.args in
    let u = c.configuration_of-u in
    let m = c.note_member in
    sum_added g.b g.work.now g.s g.i g.label c.requires.0 c.requires.1 c.requires.2 c.requires.3
    u.result (u.ensures.0 ∙ c.key_of-x.ensures.1)
    (subst (λ (x : ℕ). bit_and x g.label ≡ x) c.label_at-a.ensures c.if-a-label.false)
    m.new.work m.result
    (subst (λ (x : spec.Configuration). EnteredAs g.work.now g.b.first g.s g.b.caps x m.new.work m.result)
    (c.numbers.ensures.1 ∙ ap configuration c.add-sum.ensures.held)
    m.ensures)
