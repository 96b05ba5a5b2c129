-- `visit_ask` notes the move of each label to the threads of the next node among those of e; too many threads pass the cap.
use native.Mathlib.Omega.{arith}
use borrow.Author.Rules.{rules}
use mathlib.Core.Path.{◌≡◌, subst}
use mathlib.Core.List.{List}
use Prim.Native.Nat.{ℕ}
use lib.ListN.{length}
use Rattle.walk_state.specs.NotedInWalk.{NotedAllAs, all_on, all_over}
use Rattle.label_moves.specs.LabelMoves.{label_moves}
use Rattle.tell_ask_visits.specs.TellAskLaws.{counted, beside_many, beside_few, beside_sorted, answered_collecting, answered_stand, ask_no_room, ask_turn, ask_over}
use Rattle.tell_ask_visits.proofs.visit_ask.Goals as goal

pub put_beside-requires : goal.put_beside-requires
put_beside-requires c =
    let P = c.requires in
    let eight : length c.args.e.threads ≡ 8 = search rules in
    let k = counted c.args.e.threads c.args.e.count eight P.2 in
    (omega (arith, P.4, P.5), omega (arith, k, P.1.threads.few), P.0.collecting.caps.2, P.6, P.1.threads.ascending)

pub returns-in_err-at : goal.returns-in_err-at
returns-in_err-at c =
    let P = c.requires in
    let eight : length c.args.e.threads ≡ 8 = c.well_formed.1.1.1.1.1.0.1.1.1.1.0.1.0.1 in
    rw c.from_residual.ensures
    (record { turned = λ nodes of x o. ask_no_room P.0 P.1 nodes of x (beside_many c.args.e o c.in_err-at.ensures eight P.2) })

pub note_labels-requires : goal.note_labels-requires
note_labels-requires c =
    let P = c.requires in
    let a = c.labels_at-found in
    (answered_collecting P.0 a.ensures, omega (arith, c.in_ok-at.ensures.fits, c.in_ok-at.ensures.count, P.0.collecting.caps.2), answered_stand P.0 a.ensures)

pub returns-in_err-running : goal.returns-in_err-running
returns-in_err-running c =
    let P = c.requires in
    let g = c.args in
    let a = c.labels_at-found in
    rw c.from_residual-in_err-running.ensures
    (record {
      turned = λ nodes of x o.
          ask_over P.0 P.1 nodes of x a.ensures
          (all_over c.in_err-running.was
          (subst
          (λ (l : List ℕ). NotedAllAs a.new.work g.b.first g.s.running g.b.caps
          (label_moves a.new.work g.b.store l a.result.first a.result.end) c.note_labels.new.work c.note_labels.result)
          (beside_sorted o c.in_ok-at.ensures P.1.threads.ascending) c.note_labels.ensures));
    })

pub returns : goal.returns
returns c =
    let P = c.requires in
    let g = c.args in
    let a = c.labels_at-found in
    let eight : length c.args.e.threads ≡ 8 = c.well_formed.1.1.1.1.1.0.1.1.1.1.0.1.0.1 in
    record {
      turned = λ nodes of x o.
          ask_turn P.0 P.1 nodes of x a.ensures P.4
          (beside_few o c.in_ok-at.ensures eight P.2)
          (all_on c.in_ok-running.was
          (subst
          (λ (l : List ℕ). NotedAllAs a.new.work g.b.first g.s.running g.b.caps
          (label_moves a.new.work g.b.store l a.result.first a.result.end) c.note_labels.new.work c.note_labels.result)
          (beside_sorted o c.in_ok-at.ensures P.1.threads.ascending) c.note_labels.ensures));
    }
