-- Document 02, card 1: all starts of a sheet compared together. The call takes no pair: its set begins with every start, and the answer
-- has the members as in a report, no trail section and no count of one, and a class for each start.
use Rattle.std.specs.Prelude.{◌≡◌, refl, List, [], ◌++◌, map, ℕ, ◌+◌, ◌*◌, length, get_or}
use Rattle.answers.specs.Lists.{concat_map}
use Rattle.answers.specs.SheetLimits.{max_starts}
use Rattle.answers.specs.Sheet.{Configuration, Sheet}
use Rattle.answers.specs.SheetBytes.{word_bytes}
use Rattle.answers.specs.Reading.{read_sheet}
use Rattle.answers.specs.CallLimits.{Limits, limits, word_length, member_length}
use Rattle.answers.specs.Classes.{class_of}
use Rattle.answers.specs.Rounds.{rounds, result_of}
use Rattle.answers.specs.Report.{members_bytes}
use Rattle.answers.specs.Outcome.{Outcome, written_after}
use Rattle.answers.specs.Frame.{with_room, with_set, with_work, with_sheet}

-- The number of the result's round, the members with its classes, and the class of each start in sheet order.
pub record Grouping : Type 0 where
  pub round : ℕ
  pub members : List Configuration
  pub classes : List ℕ
  pub start_classes : List ℕ

-- the grouping of a sheet's starts over a set that has them
unfoldable pub grouping_on : Sheet → List Configuration → Grouping
grouping_on sheet set =
    let rs = rounds sheet set in
    let numbers = get_or rs (result_of rs) [] in
    record { round = result_of rs; members = set; classes = numbers; start_classes = map (class_of set numbers) sheet.starts }

-- the answer bytes: the members as in a report, and two bytes for the class of each start
abbrev pub grouping_bytes : Grouping → List ℕ
grouping_bytes g =
    word_bytes (length g.members) ++ members_bytes g.members g.classes ++ concat_map word_bytes g.start_classes

-- its length in bytes
abbrev pub grouping_length : Grouping → ℕ
grouping_length g = length (grouping_bytes g)

-- a grouping, or a refusal
abbrev pub Groups : Type 0
Groups = Outcome Grouping

-- The call with limits that are given: the sheet's refusals, 23, 21, 22. There is no choice, and so no 14.
unfoldable pub compare_all_with : Limits → List ℕ → ℕ → ℕ → Groups
compare_all_with l bytes work answer =
    with_sheet (read_sheet bytes) (λ sheet.
    with_work work (with_set l sheet sheet.starts (λ set. with_room grouping_bytes answer (grouping_on sheet set))))

-- the call, within document 01's limits
abbrev pub compare_all : List ℕ → ℕ → ℕ → Groups
compare_all = compare_all_with limits

-- the answer slice after the call
abbrev pub grouping_after : Groups → List ℕ → List ℕ
grouping_after = written_after grouping_bytes

-- the longest answer: as many members as allowed, each with as many threads, and as many starts as a sheet may have
abbrev pub grouping_room : Limits → ℕ
grouping_room l = word_length + l.members * member_length l.threads + max_starts * word_length

-- 6,690 bytes always suffice
pub grouping_room_is : grouping_room limits ≡ 6690
grouping_room_is = refl
