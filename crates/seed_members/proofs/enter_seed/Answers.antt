-- `enter_seed`: the struct counts the seed's threads, so more of them than allowed is known before it is entered.
use mathlib.Core.Path.{◌≡◌, refl}
use mathlib.Core.Logic.{inl}
use native.Mathlib.Omega.{arith}
use borrow.Author.Rules.{rules}
use lib.ListN.{length}
use lib.Seq.{length-take-le}
use Rattle.seed_members.specs.SeedLaws.{seed_entered}
use Rattle.seed_members.proofs.enter_seed.Goals as goal

pub returns-then-caps-count : goal.returns-then-caps-count
returns-then-caps-count c =
    let a = c.args in
    let eight : length a.seed.threads ≡ 8 = search rules in
    record { large = inl (omega (arith, c.if-caps-count.true, length-take-le a.seed.count a.seed.threads (omega (arith, eight, c.requires.1))), refl) }

pub returns : goal.returns
returns c =
    let a = c.args in
    let m = c.note_member in
    let eight : length a.seed.threads ≡ 8 = search rules in
    seed_entered a.work.now a.s a.caps m.new.work m.result c.numbers.ensures.1
    (omega (arith, c.if-caps-count.false, length-take-le a.seed.count a.seed.threads (omega (arith, eight, c.requires.1)))) m.ensures
