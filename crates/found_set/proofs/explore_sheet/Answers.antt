-- `explore_sheet`: what is lent is the sheet's table: its nodes, their threads and which of them can move.
use borrow.Author.Rules.{rules}
use Rattle.found_set.specs.LentSheetLaws.{sheet_lent}
use Rattle.found_set.proofs.explore_sheet.Goals as goal

pub explore-requires : goal.explore-requires
explore-requires c =
    (sheet_lent c.args.sheet c.requires.0 c.args.caps c.requires.1, c.requires.2)
