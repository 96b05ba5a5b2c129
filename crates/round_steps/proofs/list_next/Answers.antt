-- `list_next` lists the members that are awake; where one of them is the chosen one of its class, members at rest are chosen.
use Rattle.class_splits.specs.ClassedPlaces.{classed_count}
use Rattle.round_steps.specs.AwakeMembers.{next_kept, next_chosen}
use native.Mathlib.Omega.{arith}
use Rattle.round_steps.proofs.list_next.Goals as goal

pub chosen_listed-requires : goal.chosen_listed-requires
chosen_listed-requires c =
    let p = c.requires in
    let L = c.list_places-next.ensures in (
      omega (arith, L.few, p.0),
      p.1,
      (λ j l. (
        omega (arith, (L.inside j l).0, p.0),
        omega (arith, p.6.1.known _ (L.inside j l).0, classed_count p.6.1, p.0),
      )),
    )

pub choose_rest-requires : goal.choose_rest-requires
choose_rest-requires c =
    let p = c.requires in
    (p.0, p.1, (λ i l. omega (arith, p.6.1.known i l, classed_count p.6.1, p.0)))

pub returns-then-chosen_listed : goal.returns-then-chosen_listed
returns-then-chosen_listed c =
    let g = c.args in
    let p = c.requires in
    let x = c.choose_rest in
    let y = c.list_places-next in
    let z = c.wake in
    next_chosen g.work.now g.sets.now g.width g.n g.old g.list.now g.k z.new.awake z.ensures
    y.new.list y.result y.ensures p.3 p.0 x.new.work x.ensures

pub returns-else-chosen_listed : goal.returns-else-chosen_listed
returns-else-chosen_listed c =
    let g = c.args in
    let p = c.requires in
    let y = c.list_places-next in
    let z = c.wake in
    next_kept g.work.now g.sets.now g.width g.n g.old g.list.now g.k z.new.awake z.ensures
    y.new.list y.result y.ensures p.3 (c.chosen_listed.ensures c.if-chosen_listed.false)
