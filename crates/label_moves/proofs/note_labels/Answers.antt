-- The loop of `note_labels` notes the label that stands at each place, which noting leaves alone: so far those before place i are noted.
use native.Mathlib.Omega.{arith}
use Prim.Native.Nat.{ℕ, ◌%◌}
use mathlib.Core.Path.{◌≡◌, refl, subst}
use Rattle.threads_beside.specs.ThreadsBeside.{node_beside}
use Rattle.walk_state.specs.NotedInWalk.{NotedAll}
use Rattle.label_moves.specs.LabelMoves.{label_move, label_moves}
use lib.ListN.{get_or}
use Rattle.label_moves.specs.LabelMoveLaws.{labels_begin, label_place, label_noted, label_passes, noted_on, noted_full}
use Rattle.label_moves.proofs.note_labels.Goals as goal

pub loop-i-init : goal.loop-i-init
loop-i-init c =
    let g = c.args in
    (omega arith, c.requires.2.order, labels_begin g.work.now g.b.store (node_beside g.e).threads g.from c.requires.0)

pub note_label-requires : goal.note_label-requires
note_label-requires c =
    let g = c.args in
    let m = c.loop-i in (
      m.invariant.2.collecting,
      c.requires.1,
      label_place g.work.now g.b.first g.s g.b.caps g.b.facts g.b.store
          (node_beside g.e).threads g.from g.end
          c.requires.0.long c.requires.2 m.i m.invariant.0 c.loop-i-test.true
          m.work m.run m.invariant.2 (get_or m.work m.i 0 % 65536) refl,
    )

pub returns-in_err-run : goal.returns-in_err-run
returns-in_err-run c =
    let g = c.args in
    let m = c.loop-i in
    rw c.from_residual.ensures
    (label_passes g.work.now g.b.first g.s g.b.caps g.b.facts g.b.store
    (node_beside g.e).threads g.from g.end
    c.requires.0.long c.requires.2 m.i m.invariant.0 c.loop-i-test.true
    m.work m.run m.invariant.2 (get_or m.work m.i 0 % 65536) refl
    (noted_full {m = label_move m.work g.b.store (node_beside g.e).threads (get_or m.work m.i 0 % 65536)}
    c.in_err-run.was c.note_label.ensures))

pub loop-i-preserved : goal.loop-i-preserved
loop-i-preserved c =
    let g = c.args in
    let m = c.loop-i in (
      omega (arith, m.invariant.0),
      omega arith,
      label_noted g.work.now g.b.first g.s g.b.caps g.b.facts g.b.store
          (node_beside g.e).threads g.from g.end
          c.requires.0.long c.requires.2 m.i m.invariant.0 c.loop-i-test.true
          m.work m.run m.invariant.2 (get_or m.work m.i 0 % 65536) refl
          (noted_on {m = label_move m.work g.b.store (node_beside g.e).threads (get_or m.work m.i 0 % 65536)}
          c.in_ok-run.was c.note_label.ensures),
    )

pub returns : goal.returns
returns c =
    let g = c.args in
    let m = c.loop-i in
    let e : m.i ≡ g.end = omega (arith, m.invariant.1, c.loop-i-test.false) in
    subst
    (λ (j : ℕ). NotedAll g.work.now g.b.first g.s g.b.caps
    (label_moves g.work.now g.b.store (node_beside g.e).threads g.from j) m.work m.run)
    e m.invariant.2
