-- What the program prints of a sheet until the comparison is there: READ and the counts of facts, rules, nodes and starts, or
-- REFUSED with number and place.
use Rattle.std.specs.Prelude.{◌≡◌, List, [], ◌∷◌, ℕ, length, get_or}
use Rattle.std.proofs.Common.{sym, ap, ◌∙◌}
use Rattle.text.specs.Tabulate.{tabulate_length}
use Rattle.text.specs.Lines.{line, read_word, refused_word}
use Rattle.sheet_types.specs.Sheet.{Sheet}
use Rattle.sheet_types.specs.Reading.{Reading, got, refused}
use Rattle.sheet_types.specs.RuleTable.{rule_in}
use Rattle.sheet_types.specs.HeldSheet.{node_in, configuration, no_configuration, sheet_of}
use Rattle.sheet_types.specs.NodeTable.{nodes_of}
use Rattle.sheet_types.specs.declared.Sheet as held

abbrev pub reading_line : Reading Sheet → List ℕ
reading_line (got sheet end) = line read_word (sheet.facts ∷ length sheet.rules ∷ length sheet.nodes ∷ length sheet.starts ∷ [])
reading_line (refused number place) = line refused_word (number ∷ place ∷ [])

module _ (m : Reading Sheet) where
  -- a refusal's line
  pub line_refused : {number place : ℕ} → refused number place ≡ m → reading_line m ≡ line refused_word (number ∷ place ∷ [])
  line_refused e = ap reading_line (sym e)

  -- the line of a sheet that was read: the counts that are held
  pub line_read : (x : held.Sheet) (end : ℕ) → got (sheet_of x) end ≡ m
      → reading_line m ≡ line read_word (x.facts ∷ x.rule_count ∷ x.node_count ∷ x.start_count ∷ [])
  line_read x end e =
      ap reading_line (sym e)
      ∙ rw (
        tabulate_length (rule_in x.rules) x.rule_count,
        tabulate_length (node_in (nodes_of x.table)) x.node_count,
        tabulate_length (λ i. configuration (get_or x.starts i no_configuration)) x.start_count,
      )
