-- `apart` climbs from the higher of two classes to the one it came from; the answer from there on is the answer.
use Rattle.separations.specs.ApartClasses.{climbing_same, climbing_founders, climbing_up}
use Rattle.separations.proofs.apart.Goals as goal

pub returns-then-born-eq0 : goal.returns-then-born-eq0
returns-then-born-eq0 c =
    let l = c.loop-a in
    let h = c.max-high in
    let k = c.min-low in
    climbing_founders l.invariant c.loop-a-test.true h.result k.result h.ensures k.ensures
    c.if-born-eq0.true

pub loop-a-preserved : goal.loop-a-preserved
loop-a-preserved c =
    let l = c.loop-a in
    let h = c.max-high in
    let k = c.min-low in
    climbing_up l.invariant c.loop-a-test.true h.result k.result h.ensures k.ensures
    c.if-born-eq0.false

pub returns : goal.returns
returns c = climbing_same c.loop-a.invariant c.loop-a-test.false
