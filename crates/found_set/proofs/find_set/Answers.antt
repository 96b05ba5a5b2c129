-- `find_set`: exploring begins with the seeds as members, and where it ends with every member explored these are the whole set.
use native.Mathlib.Omega.{arith}
use borrow.Author.Rules.{rules}
use Rattle.sheet_types.specs.NodeTable.{nodes_of}
use Rattle.sheet_types.specs.HeldSheet.{starts_in, sheet_of, nodes_in}
use Rattle.seed_members.specs.SheetMoves.{conclusions_fit}
use Rattle.exploration.specs.LabelShelfLaws.{sets_few}
use Rattle.found_set.specs.FoundSet.{plan_of}
use Rattle.seed_members.specs.SeedLaws.{seeds_on, seeds_over}
use Rattle.found_set.specs.LentSheetLaws.{facts_few, rules_few, begins}
use Rattle.found_set.specs.WholeSetLaws.{discovered_some}
use Rattle.found_set.specs.FoundSetLaws.{seeds_pass, exploring_passes, whole_found, all_on, all_over}
use Rattle.found_set.proofs.find_set.Goals as goal

pub fill_closures-requires : goal.fill_closures-requires
fill_closures-requires c =
    let fine = c.requires.2 in
    let few = facts_few c.args.sheet fine in (
      rules_few c.args.sheet fine,
      few,
      omega (arith, sets_few c.args.sheet.facts few, c.requires.0),
      conclusions_fit (sheet_of c.args.sheet) fine.well_formed,
    )

pub returns-in_err-s : goal.returns-in_err-s
returns-in_err-s c =
    let g = c.args in
    let f = c.fill_closures in
    let n = c.clear_spans in
    let m = c.enter_seeds in
    rw c.from_residual.ensures
    (seeds_pass g.sheet g.seeds g.k g.caps c.requires.2 c.requires.4 g.work.now f.new.work n.new.work c.requires.0 f.ensures.1
    n.ensures m.new.work
    c.in_err-s.ensures)

pub explore_sheet-requires : goal.explore_sheet-requires
explore_sheet-requires c =
    let g = c.args in
    let f = c.fill_closures in
    let n = c.clear_spans in
    let m = c.enter_seeds in (
      c.requires.2,
      c.requires.3,
      begins g.sheet g.seeds g.k g.caps c.requires.2 c.requires.4 g.work.now f.new.work n.new.work m.new.work c.in_ok-s.s c.requires.0
          f.ensures.0 f.ensures.1 n.ensures
          c.in_ok-s.ensures,
    )

pub returns-in_err-t : goal.returns-in_err-t
returns-in_err-t c =
    let g = c.args in
    let f = c.fill_closures in
    let n = c.clear_spans in
    let m = c.enter_seeds in
    let x = c.explore_sheet in
    rw c.from_residual-in_err-t.ensures
    (exploring_passes g.sheet g.seeds g.k g.caps c.requires.2 c.requires.4 g.work.now f.new.work n.new.work c.requires.0
    f.ensures.1 n.ensures m.new.work c.in_ok-s.s f.ensures.0
    c.in_ok-s.ensures
    x.new.work
    c.in_err-t.ensures)

pub arrange-requires : goal.arrange-requires
arrange-requires c =
    let g = c.args in
    let m = c.enter_seeds in
    let x = c.explore_sheet in
    let o = c.in_ok-t.ensures in
    discovered_some o.exploring o.all

pub returns : goal.returns
returns c =
    let g = c.args in
    let f = c.fill_closures in
    let n = c.clear_spans in
    let m = c.enter_seeds in
    let x = c.explore_sheet in
    let z = c.arrange in
    whole_found g.sheet g.seeds g.k g.caps c.requires.2 c.requires.4 g.work.now f.new.work n.new.work c.requires.0
    f.ensures.1 n.ensures m.new.work c.in_ok-s.s f.ensures.0
    c.in_ok-s.ensures
    x.new.work c.in_ok-t.t z.new.work
    c.in_ok-t.ensures
    z.ensures
