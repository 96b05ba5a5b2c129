-- `split_rounds` goes on while a round splits a class, so each round but the last has a birth; there are no more classes than
-- members. In each round a member is listed or at rest. A split behind the limit is taken back.
use mathlib.Core.Bool.{true, false}
use mathlib.Core.List.{List}
use lib.ListN.{replicate}
use Rattle.round_lines.specs.TestLaws.{true_false}
use Rattle.round_steps.specs.ClassedPlaces.{classed_count}
use Rattle.class_rounds.specs.RoundsDone.{refining_first, refining_shape, refining_classed, refining_lines, refining_next, refining_last, refining_stopped, LastRound, LaterRound}
use native.Mathlib.Omega.{arith}
use Prim.Native.Nat.{ℕ}
use mathlib.Core.Path.{◌≡◌, refl}
use Rattle.class_rounds.proofs.split_rounds.Goals as goal

pub loop-count-init : goal.loop-count-init
loop-count-init c =
    let g = c.args in
    let f = c.forget_dominators in
    let d = c.found_classes-count in
    let h = c.choose_rest in
    let a = c.list_all in
    record {
      refining = refining_first g.work.now g.n g.m f.new.work f.ensures d.new.work d.result d.ensures
          h.new.work (replicate 8 0) h.ensures g.sets.now g.width a.new.list a.ensures c.requires.0;
      within = omega arith;
    }

pub line_listed-requires : goal.line_listed-requires
line_listed-requires c =
    let g = c.args in
    let v : List ℕ = g.work.now in
    let l = c.loop-count in
    let G = c.loop-count.invariant.refining in
    let H = c.requires.0.ready.held in (
      refining_shape v g.n g.m l.work l.sets g.width l.list l.k l.round l.count G c.requires.0,
      omega (arith, G.listed.few, H.few.0),
      G.listed.below,
      c.requires.2,
      c.requires.1,
      omega (arith, c.requires.3),
    )

pub overflow_add-round : goal.overflow_add-round
overflow_add-round c =
    let G = c.loop-count.invariant.refining in
    omega (arith, G.early, classed_count G.classed, c.requires.0.ready.held.few)

pub split_listed-next-requires : goal.split_listed-next-requires
split_listed-next-requires c =
    let g = c.args in
    let v : List ℕ = g.work.now in
    let l = c.loop-count in
    let G = c.loop-count.invariant.refining in
    let u = c.line_listed in
    let H = c.requires.0.ready.held in (
      H.few.0,
      omega (arith, H.long, G.same_set.long, u.ensures.only.long),
      omega (arith, G.early, classed_count G.classed, H.few.0),
      refining_classed v g.n g.m l.work l.sets g.width l.list l.k l.round l.count G u.new.work u.new.sets u.ensures c.requires.0,
      refining_lines v g.n g.m l.work l.sets g.width l.list l.k l.round l.count G u.new.work u.new.sets u.ensures c.requires.0,
      G.listed,
    )

pub returns-then-next-count : goal.returns-then-next-count
returns-then-next-count c =
    let g = c.args in
    let v : List ℕ = g.work.now in
    let l = c.loop-count in
    let G = c.loop-count.invariant.refining in
    let u = c.line_listed in
    let s = c.split_listed-next in
    let x = refining_last v g.n g.m l.work l.sets g.width l.list l.k l.round l.count G u.new.work u.new.sets u.ensures s.new.work s.result s.ensures c.if-next-count.true in
    (x.0, record { within = l.invariant.within; result = λ e. x.1; later = λ e. true_false {A = (l.round ≡ g.limit) × LaterRound v g.n g.m l.round} true refl e })

pub restore_classes-requires : goal.restore_classes-requires
restore_classes-requires c =
    let G = c.loop-count.invariant.refining in
    let u = c.line_listed in
    let s = c.split_listed-next in
    let H = c.requires.0.ready.held in (
      H.few.0,
      omega (arith, H.long, G.same_set.long, u.ensures.only.long, s.ensures.only.long),
      (λ i l. omega (arith, s.ensures.classed.known i l, classed_count s.ensures.classed, H.few.0)),
    )

pub returns-then-round-limit : goal.returns-then-round-limit
returns-then-round-limit c =
    let g = c.args in
    let v : List ℕ = g.work.now in
    let l = c.loop-count in
    let G = c.loop-count.invariant.refining in
    let u = c.line_listed in
    let s = c.split_listed-next in
    let r = c.restore_classes in
    let x = refining_stopped v g.n g.m l.work l.sets g.width l.list l.k l.round l.count G u.new.work u.new.sets u.ensures s.new.work s.result s.ensures c.if-next-count.false r.new.work r.ensures in
    (x.0, record { within = l.invariant.within; result = λ e. true_false {A = LastRound v g.n g.m l.round} false e refl; later = λ e. (c.if-round-limit.true, x.1) })

pub list_next-k-requires : goal.list_next-k-requires
list_next-k-requires c =
    let l = c.loop-count in
    let G = c.loop-count.invariant.refining in
    let u = c.line_listed in
    let s = c.split_listed-next in
    let H = c.requires.0.ready.held in (
      H.few.0,
      omega (arith, H.long, G.same_set.long, u.ensures.only.long, s.ensures.only.long),
      c.requires.1,
      c.requires.2,
      omega (arith, c.requires.3, u.ensures.grown.long),
      G.listed,
      (s.result, s.ensures.classed),
    )

pub loop-count-smaller : goal.loop-count-smaller
loop-count-smaller c =
    let s = c.split_listed-next in
    omega (arith, s.ensures.more, classed_count s.ensures.classed, c.if-next-count.false)

pub loop-count-preserved : goal.loop-count-preserved
loop-count-preserved c =
    let g = c.args in
    let l = c.loop-count in
    let u = c.line_listed in
    let s = c.split_listed-next in
    let x = c.list_next-k in
    record {
      refining = refining_next g.work.now g.n g.m l.work l.sets g.width l.list l.k l.round l.count l.invariant.refining
          u.new.work u.new.sets u.ensures s.new.work s.result s.ensures c.if-next-count.false
          x.new.work x.new.list x.result x.ensures;
      within = omega (arith, c.if-round-limit.false);
    }
