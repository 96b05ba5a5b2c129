-- A grouping read back from what the call returned and from the answer's bytes, and what the call returns of an outcome.
use Rattle.std.specs.Prelude.{List, [], ◌∷◌, ℕ, ◌+◌, ◌*◌, take, drop}
use Rattle.answers.specs.SheetBytes.{word}
use Rattle.answers.specs.Outcome.{reported, refusal, Outcome}
use Rattle.answers.specs.ReadBack.{members_read, classes_read, behind_members}
use Rattle.all_starts.specs.Grouping.{Grouping, grouping_length, Groups}
use Rattle.all_starts.specs.declared.Grouped.{Grouped}

-- ---- what is returned
abbrev pub grouped_of : Grouping → Grouped
grouped_of g = record { round = g.round; length = grouping_length g }

abbrev pub groups_returned : Groups → Outcome Grouped
groups_returned (reported g) = reported (grouped_of g)
groups_returned (refusal number place) = refusal number place

-- ---- what is read back
-- numbers of two bytes, the low one first, to the end; a byte beyond the end counts as 0
unfoldable pub words_read : List ℕ → List ℕ
words_read [] = []
words_read (low ∷ []) = low ∷ []
words_read (low ∷ high ∷ s) = (low + 256 * high) ∷ words_read s

-- a count of members, the members with their classes, and the classes of the starts
abbrev pub grouping_in : ℕ → List ℕ → Grouping
grouping_in round s =
    let n = word s 0 in
    let behind = behind_members n (drop 2 s) in
    record { round = round; members = members_read n (drop 2 s); classes = classes_read n (drop 2 s); start_classes = words_read behind }

-- from the returned value and the answer slice, of which the returned length says how far the answer reaches
abbrev pub grouping_read : Grouped → List ℕ → Grouping
grouping_read x answer = grouping_in x.round (take x.length answer)
