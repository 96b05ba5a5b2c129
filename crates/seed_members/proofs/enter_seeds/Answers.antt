-- `enter_seeds`: the members are the seeds entered so far.
use mathlib.Core.Path.{◌≡◌, sym, subst}
use mathlib.Core.List.{List}
use Prim.Native.Nat.{◌≤◌}
use native.Mathlib.Omega.{arith}
use borrow.Author.Rules.{rules}
use lib.ListN.{length}
use Rattle.sheet_types.specs.Sheet as spec
use Rattle.sheet_types.specs.declared.Configuration.{Configuration}
use Rattle.sheet_types.specs.HeldSheet.{configuration, starts_in}
use Rattle.seed_members.specs.Seeds.{SeededOn}
use Rattle.seed_members.specs.SeedLaws.{seed_at, seed_at_lem, starts_next, starts_among, seeded_none, seeded_next, seeded_over}
use Rattle.seed_members.proofs.enter_seeds.Goals as goal

pub loop-i-init : goal.loop-i-init
loop-i-init c = seeded_none c.args.work.now c.args.caps c.args.seeds c.requires.0 c.requires.1

pub enter_seed-requires : goal.enter_seed-requires
enter_seed-requires c =
    let l = c.loop-i in
    let long : length c.args.seeds ≡ 16 = search rules in (
      l.invariant.collecting,
      subst (λ (s : Configuration). s.count ≤ 8) (sym (seed_at_lem c.args.seeds l.i (omega (arith, c.requires.2))))
          (c.requires.3 l.i (omega arith)),
    )

pub returns-in_err-run : goal.returns-in_err-run
returns-in_err-run c =
    let g = c.args in
    let l = c.loop-i in
    let long : length g.seeds ≡ 16 = search rules in
    rw c.from_residual.ensures
    (seeded_over l.invariant (configuration (seed_at g.seeds l.i)) (starts_in g.seeds g.k)
    (starts_among g.seeds l.i g.k (omega arith) (omega (arith, c.requires.2))) c.in_err-run.ensures)

pub loop-i-preserved : goal.loop-i-preserved
loop-i-preserved c =
    let g = c.args in
    let l = c.loop-i in
    let long : length g.seeds ≡ 16 = search rules in
    subst (λ (ps : List spec.Configuration). SeededOn g.work.now g.caps ps c.enter_seed.new.work c.in_ok-run.run')
    (sym (starts_next g.seeds l.i (omega (arith, c.requires.2))))
    (seeded_next l.invariant (configuration (seed_at g.seeds l.i)) c.in_ok-run.ensures)
