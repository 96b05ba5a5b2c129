-- `visit_tell` notes the one move that a tell gives: the least label, the store joined with the told set, the threads beside it.
use Prim.Native.Nat.{◌%◌}
use lib.ListN.{get_or}
use lib.Bits.{bit_or}
use Rattle.threads_beside.specs.ThreadsBeside.{node_beside}
use Rattle.label_moves.specs.LabelMoveLaws.{noted_named, noted_on, noted_full}
use Rattle.tell_ask_visits.specs.TellAskLaws.{sum_place, tell_turn, tell_over}
use Rattle.tell_ask_visits.proofs.visit_tell.Goals as goal

pub closure_at-told-requires : goal.closure_at-told-requires
closure_at-told-requires c = sum_place c.requires.0 c.args.c c.requires.3

pub returns-in_err-running : goal.returns-in_err-running
returns-in_err-running c =
    let g = c.args in
    let P = c.requires in
    let x = c.numbers-x in
    let z = c.closure_at-least in
    let k = c.closure_at-told in
    let n = noted_named g.work.now g.b.first g.s.running g.b.caps c.note.new.work c.note.result
    z.result (get_or g.work.now 0 0 % 65536) x.result k.result
    (get_or g.work.now (bit_or g.b.store g.c) 0 % 65536) (node_beside g.e).threads z.ensures.entry x.ensures.1 k.ensures.entry
    c.note.ensures in
    rw c.from_residual.ensures
    (record { turned = λ nodes of q. tell_over P.0 P.1 P.3 nodes of q (noted_full c.in_err-running.was n) })

pub returns : goal.returns
returns c =
    let g = c.args in
    let P = c.requires in
    let x = c.numbers-x in
    let z = c.closure_at-least in
    let k = c.closure_at-told in
    let n = noted_named g.work.now g.b.first g.s.running g.b.caps c.note.new.work c.note.result
    z.result (get_or g.work.now 0 0 % 65536) x.result k.result
    (get_or g.work.now (bit_or g.b.store g.c) 0 % 65536) (node_beside g.e).threads z.ensures.entry x.ensures.1 k.ensures.entry
    c.note.ensures in
    record { turned = λ nodes of q. tell_turn P.0 P.1 P.3 nodes of q (noted_on c.in_ok-running.was n) }
