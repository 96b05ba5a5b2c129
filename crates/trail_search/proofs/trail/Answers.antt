-- `trail` goes from pair to pair: the steps stored so far and those from the present pair are the trail of the definition.
use native.Mathlib.Omega.{arith}
use Prim.Native.Nat.{ℕ}
use mathlib.Core.Path.{◌≡◌, subst}
use mathlib.Core.Logic.{⊎_elim}
use Rattle.trail_search.specs.FollowedTrail.{Trailed, following_first, following_stop_first, following_stop_never, following_end, following_takes, follows_now}
use Rattle.trail_search.specs.TrailTurn.{step_room, reply_fits, turn_stored}
use Rattle.trail_search.proofs.trail.Goals as goal

pub loop-k-init : goal.loop-k-init
loop-k-init c = let P = c.requires in following_first P.0 P.1 P.2

pub returns-then-r-eq0 : goal.returns-then-r-eq0
returns-then-r-eq0 c =
    let P = c.requires in
    let G = c.loop-k.invariant in
    let a = c.apart_at-r in
    ⊎_elim (λ x. following_stop_first P.0 P.1 P.2 G a.ensures x.if-r-eq0.true)
    (λ x. following_stop_never P.0 P.1 P.2 G a.ensures x.if-r-last.true) c.then-r-eq0.branch-raw

pub take_move-requires : goal.take_move-requires
take_move-requires c =
    let P = c.requires in
    let G = c.loop-k.invariant in
    (follows_now P.0 P.1 P.2 G, G.lefts, G.rights)

pub unreachable-requires : goal.unreachable-requires
unreachable-requires c =
    let P = c.requires in
    following_takes P.0 P.1 P.2 c.loop-k.invariant c.apart_at-r.ensures c.if-r-eq0.false c.if-r-last.false c.in_default.ensures

pub reply_to-reply-requires : goal.reply_to-reply-requires
reply_to-reply-requires c =
    let P = c.requires in
    reply_fits P.0 P.1 P.2 c.loop-k.invariant c.apart_at-r.ensures c.in-Some.ensures c.other_of.ensures

pub put_step-requires : goal.put_step-requires
put_step-requires c =
    let P = c.requires in
    step_room P.0 P.1 P.2 c.loop-k.invariant (omega arith)

pub returns-in_default-reply : goal.returns-in_default-reply
returns-in_default-reply c =
    let P = c.requires in
    (turn_stored P.0 P.1 P.2 c.loop-k.invariant c.apart_at-r.ensures c.in-Some.ensures c.other_of.ensures c.loop-k-test.true
    c.if-r-eq0.false c.if-r-last.false c.reply_to-reply.ensures c.put_step.ensures).alone
    c.in_default-reply.is

pub loop-k-preserved : goal.loop-k-preserved
loop-k-preserved c =
    let P = c.requires in
    let x = c.next_pair-pair in
    (turn_stored P.0 P.1 P.2 c.loop-k.invariant c.apart_at-r.ensures c.in-Some.ensures c.other_of.ensures c.loop-k-test.true
    c.if-r-eq0.false c.if-r-last.false c.reply_to-reply.ensures c.put_step.ensures).on
    c.in-Some-reply.place c.in-Some-reply.is x.result.left x.result.right x.ensures.0 x.ensures.1

pub returns : goal.returns
returns c =
    let g = c.args in
    let l = c.loop-k in
    let P = c.requires in
    let e : l.k ≡ g.last = omega arith in
    subst (λ (k : ℕ). Trailed g.work.now g.n g.last g.p g.q l.work k) e (following_end P.0 P.1 P.2 l.invariant (omega arith))
