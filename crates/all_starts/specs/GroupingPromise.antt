-- The promise of the call for all starts, within limits that are given (document 02, card 1): when it refuses, and what a grouping says,
-- in terms of the set itself and of saturated barbed bisimulations over all configurations of the sheet; of what is returned and of what
-- stands in both slices afterwards.
use Rattle.std.specs.Prelude.{◌≡◌, ◌↔◌, true, List, ◌++◌, map, ℕ, length, get_or, drop}
use Rattle.answers.specs.Sheet.{Sheet}
use Rattle.answers.specs.SheetBytes.{SheetIs, SheetRefused}
use Rattle.answers.specs.CallLimits.{Limits}
use Rattle.answers.specs.Classes.{class_of}
use Rattle.answers.specs.Set.{explored}
use Rattle.answers.specs.Outcome.{cleared, Outcome, refusal, reported}
use Rattle.answers.specs.Promise.{RefusesBy, GivesBy, PromiseBy, ResultRound, Classified}
use Rattle.answers.specs.OutcomeOf.{CallResult, outcome_of}
use Rattle.answers.specs.declared.Reported.{Reported}
use Rattle.all_starts.specs.Grouping.{Grouping, grouping_on, grouping_bytes, grouping_length}
use Rattle.all_starts.specs.GroupingRead.{grouped_of, grouping_read}
use Rattle.all_starts.specs.declared.Grouped.{Grouped}

-- What a grouping of a sheet's starts says.
pub record FaithfulAll (sheet : Sheet) (g : Grouping) : Type 1 where
  -- it lists the least set that holds all starts and is closed, with the classes of bisimilarity
  pub listed : Classified sheet sheet.starts g.members g.classes
  -- each start has the class of the member that it is, in sheet order
  pub starts : g.start_classes ≡ map (class_of g.members g.classes) sheet.starts
  -- the round is the result's
  pub result : ResultRound sheet sheet.starts g.round

-- the grouping of a sheet, over the set that grows from all its starts
abbrev pub grouping_for : Limits → Sheet → Grouping
grouping_for l sheet = grouping_on sheet (explored sheet l sheet.starts)

-- When the call refuses, and how: by the sheet, 23, 21, and 22 where the answer slice is shorter than the answer.
abbrev pub RefusesAll : Limits → List ℕ → ℕ → ℕ → ℕ → ℕ → Type 0
RefusesAll l bytes =
    RefusesBy (SheetIs bytes) (SheetRefused bytes) l (λ sheet. sheet.starts) (λ sheet. grouping_length (grouping_for l sheet))

-- When it does not, and what it gives.
abbrev pub GivesAll : Limits → List ℕ → ℕ → ℕ → Grouping → Type 0
GivesAll l bytes = GivesBy (SheetIs bytes) l (λ sheet. sheet.starts) (grouping_for l) grouping_length

-- What goes with a grouping: what is read back is the grouping that the sheet asks for, and it is faithful to the sheet; its bytes stand
-- in front of the answer slice, and the rest of it is as before; the work slice is cleared.
pub record GroupingPromise (l : Limits) (bytes v before w after : List ℕ) (x : Grouped) : Type 1 where
  pub gives : GivesAll l bytes (length v) (length before) (grouping_read x after)
  pub faithful : (sheet : Sheet) × SheetIs bytes sheet × FaithfulAll sheet (grouping_read x after)
  pub long : x.length ≡ grouping_length (grouping_read x after)
  pub written : after ≡ grouping_bytes (grouping_read x after) ++ drop x.length before
  pub work : w ≡ cleared v

-- The work slice v became w, the answer slice `before` became `after`, and `answer` was returned: each refusal under its condition
-- and no other, and otherwise the grouping.
abbrev pub AllPromise : Limits → List ℕ → List ℕ → List ℕ → List ℕ → List ℕ → Outcome Grouped → Type 1
AllPromise l bytes = PromiseBy refusal (RefusesAll l bytes) reported grouped_of (GivesAll l bytes) (GroupingPromise l bytes)

-- The same of the value that the code returns.
abbrev pub AllReturnedPromise : Limits → List ℕ → List ℕ → List ℕ → List ℕ → List ℕ → CallResult Grouped → Type 1
AllReturnedPromise l bytes v before w after r = AllPromise l bytes v before w after (outcome_of r)

-- ---- beside the comparing call
-- Card 1's sentence, where neither call is refused: of the bytes `after` and of what both returned. Two starts share a class in what is
-- read back exactly when the comparing call on the two said SAME.
abbrev pub AsCompared : Grouped → List ℕ → ℕ → ℕ → Reported → Type 0
AsCompared x after left right y =
    (get_or (grouping_read x after).start_classes left 0 ≡ get_or (grouping_read x after).start_classes right 0) ↔ (y.same ≡ true)
