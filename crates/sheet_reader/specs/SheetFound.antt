-- What the reader of a sheet finds: a refusal, or a sheet, from which two starts are chosen.
use Rattle.std.specs.Prelude.{◌≡◌, List, Result, Ok, Err, IfOk, ℕ, ◌≤◌, ◌<◌, length, get_or}
use Rattle.std.proofs.Common.{sym}
use Rattle.sheet_types.specs.Tabulate.{tabulate_length}
use Rattle.sheet_types.specs.RuleTable.{rule_in, rules_in}
use Rattle.sheet_types.specs.SheetLimits.{max_rules}
use Rattle.sheet_types.specs.Sheet as spec
use Rattle.start_reader.specs.SheetBytes.{ChoiceIs}
use Rattle.sheet_types.specs.Reading.{Reading, got, refused, read_sheet, read_choice}
use Rattle.sheet_types.specs.SheetRead.{sheet_reads, choice_reads}
use Rattle.sheet_fields.specs.ReadingLaws.{choice_no_left, choice_no_right}
use Rattle.refusals.specs.Numbers.{number}
use Rattle.refusals.specs.declared.Refused.{Refused}
use Rattle.sheet_fields.specs.Answers.{read_as}
use Rattle.sheet_types.specs.HeldSheet.{nodes_in, configuration, no_configuration, sheet_of}
use Rattle.sheet_types.specs.NodeTable.{nodes_of}
use Rattle.sheet_types.specs.declared.Sheet.{Sheet}
use Rattle.node_reader.specs.NodeTables.{NodeTable}
use Rattle.start_reader.specs.StartsFound.{FewThreads}

-- the reading that it stands for, where the sheet's bytes end at `end`
abbrev pub sheet_read : ℕ → Result Sheet Refused → Reading spec.Sheet
sheet_read end = read_as sheet_of (λ _. end)

-- What is held where a sheet was read: the table has what each node opens to and which nodes can move, and no start has more
-- threads than it has room for.
pub record SheetHeld (sheet : Sheet) : Type 0 where
  pub table : NodeTable (nodes_in (nodes_of sheet.table) sheet.node_count) sheet.table
  pub threads : FewThreads sheet.starts sheet.start_count

-- The answer is this reading of bytes that end at `end`.
pub record SheetFound (end : ℕ) (m : Reading spec.Sheet) (r : Result Sheet Refused) : Type 0 where
  pub reading : sheet_read end r ≡ m
  pub held : IfOk r SheetHeld

-- a refusal
pub sheet_refused : (end : ℕ) (m : Reading spec.Sheet) (e : Refused) → m ≡ refused (number e.refusal) e.place → SheetFound end m (Err e)
sheet_refused end m e h = record { reading = sym h; held = tt }

-- the count of rules that are held
pub count_few : (rules : List ℕ) (n : ℕ) → length (rules_in rules n) ≤ max_rules → n ≤ max_rules
count_few rules n h = rw (tabulate_length (rule_in rules) n) at h

-- ---- a choice from a sheet that was found
module _ (s : List ℕ) (left right : ℕ) (x : Sheet) (found : SheetFound (length s) (read_sheet s) (Ok x)) where
  found_sheet : read_sheet s ≡ got (sheet_of x) (length s)
  found_sheet = sym found.reading

  found_starts : length (sheet_of x).starts ≡ x.start_count
  found_starts = tabulate_length (λ i. configuration (get_or x.starts i no_configuration)) x.start_count

  pub found_no_left : x.start_count ≤ left → read_choice s left right ≡ refused 14 0
  found_no_left l = choice_no_left s left right found_sheet (rw found_starts l)

  pub found_no_right : left < x.start_count → x.start_count ≤ right → read_choice s left right ≡ refused 14 1
  found_no_right l k = choice_no_right s left right found_sheet (rw found_starts l) (rw found_starts k)

  pub found_chosen : left < x.start_count → right < x.start_count → SheetFound (length s) (read_choice s left right) (Ok x)
  found_chosen l k =
      let read = (sheet_reads s).sound.got_is (sheet_of x) (length s) found_sheet in
      let chosen : ChoiceIs s left right (sheet_of x) =
      record { written = read.0; left_there = rw found_starts l; right_there = rw found_starts k } in
      record {
        reading = sym ((choice_reads s left right).is_got (sheet_of x) (length s) (chosen, read.1));
        held = found.held;
      }
