-- Document 02, card 5, the call for Engineering: the labels of an ask on a sheet, and how many sets the search for them does not skip. The
-- store and the asked set are closed first; the labels are written in ascending order.
use Rattle.std.specs.Prelude.{true, false, List, ℕ, ◌^◌, length, ltb}
use Rattle.comparison.specs.Stores.{closure}
use Rattle.comparison.specs.Refusals.{absent_fact}
use Rattle.comparison.specs.Sheet.{Sheet}
use Rattle.comparison.specs.Reading.{read_sheet}
use Rattle.comparison.specs.Moves.{labels}
use Rattle.ordered_search.specs.OrderedSearch.{label_search}
use Rattle.comparison.specs.Outcome.{Outcome, reported, refusal, written_after}
use Rattle.comparison.specs.Frame.{with_room, with_sheet}
use Rattle.asked_labels.specs.declared.LabelsFound.{LabelsFound}

-- The labels in ascending order, and the number of sets that were not skipped.
pub record AskedLabels : Type 0 where
  pub listed : List ℕ
  pub tried : ℕ

-- those of an ask at a store, both closed first
unfoldable pub asked_on : Sheet → ℕ → ℕ → AskedLabels
asked_on sheet store asked =
    let d = closure sheet.rules store in
    let c = closure sheet.rules asked in
    record { listed = labels sheet d c; tried = (label_search sheet d c).tried }

-- labels, or a refusal
abbrev pub Asks : Type 0
Asks = Outcome AskedLabels

-- 5: a set with a fact that the sheet has not; the place says which of the call's two sets it is
abbrev pub with_facts : {A : Type 0} → ℕ → ℕ → ℕ → Outcome A → Outcome A
with_facts facts place set on = elim (ltb set (2 ^ facts)) [ true ↦ on | false ↦ refusal absent_fact place ]

-- The call on a sheet: 5 for the store with place 0, 5 for the asked set with place 1, and 22 where the slice has fewer numbers than there
-- are labels, with their number as the place.
abbrev pub ask_on : Sheet → ℕ → ℕ → ℕ → Asks
ask_on sheet store asked room =
    with_facts sheet.facts 0 store (with_facts sheet.facts 1 asked (with_room (λ a. a.listed) room (asked_on sheet store asked)))

-- The call on bytes: the sheet's refusals first.
unfoldable pub ask_labels : List ℕ → ℕ → ℕ → ℕ → Asks
ask_labels bytes store asked room = with_sheet (read_sheet bytes) (λ sheet. ask_on sheet store asked room)

-- the slice of labels after the call: the labels, and the numbers beyond them stay; a refusal leaves it untouched
abbrev pub labels_after : Asks → List ℕ → List ℕ
labels_after = written_after (λ a. a.listed)

-- what is returned
abbrev pub labels_returned : Asks → Outcome LabelsFound
labels_returned (reported a) = reported (record { count = length a.listed; tried = a.tried })
labels_returned (refusal number place) = refusal number place
