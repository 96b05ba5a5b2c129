-- The promise of the call for the labels of an ask (document 02, card 5): when it refuses, and what it gives, in terms of the constraints
-- of the sheet; of what is returned and of what stands in the slice afterwards.
use Rattle.comparison.specs.Outcome.{Outcome, refusal, reported}
use Rattle.std.specs.Prelude.{◌≡◌, ◌↔◌, not, ℕ, ◌^◌, ◌≤◌, ◌<◌, length, take, drop, ltb}
use mathlib.Core.List.{List, ◌++◌, Memᴰ}
use Rattle.comparison.specs.Lists.{select, any, Ascends}
use Rattle.comparison.specs.FactSets.{Within}
use Rattle.comparison.specs.Stores.{Constraint, closure, join, strictly_below}
use Rattle.comparison.specs.Refusals.{absent_fact, short_answer}
use Rattle.comparison.specs.Sheet.{Sheet}
use Rattle.comparison.specs.SheetBytes.{SheetIs, SheetRefused}
use Rattle.comparison.specs.Moves.{count_up}
use Rattle.asked_labels.specs.AskedLabels.{asked_on}
use Rattle.asked_labels.specs.declared.LabelsFound.{LabelsFound}

-- a is a minimal constraint that makes c true at store d
pub record IsLabel (sheet : Sheet) (d c a : ℕ) : Type 0 where
  pub constraint : Constraint sheet.facts sheet.rules a
  pub makes_true_lem : Within c (join sheet.rules d a)
  pub minimal : (b : ℕ) → Constraint sheet.facts sheet.rules b → Within c (join sheet.rules d b) → Within b a → b ≡ a

-- What labels and the number beside them say of a store d and an asked set c.
pub record FaithfulLabels (sheet : Sheet) (d c : ℕ) (listed : List ℕ) (tried : ℕ) : Type 0 where
  -- every minimal constraint that makes c true at d is listed, and nothing else, in ascending order
  pub labels : (a : ℕ) → Memᴰ a listed ↔ IsLabel sheet d c a
  pub ascending : Ascends ltb listed
  -- the number is that of the sets of the sheet's facts that have no label as a proper subset
  pub number : tried ≡ length (select (λ s. not (any (λ b. strictly_below b s) listed)) (count_up 0 (2 ^ sheet.facts)))

-- When the call refuses, and how.
pub data RefusesAsk (bytes : List ℕ) (store asked room : ℕ) : ℕ → ℕ → Type 0 where
  by_sheet : {number place : ℕ} → SheetRefused bytes number place → RefusesAsk bytes store asked room number place
  -- 5: the store has an absent fact, or the store has none and the asked set has one
  by_store : (sheet : Sheet) → SheetIs bytes sheet → 2 ^ sheet.facts ≤ store → RefusesAsk bytes store asked room absent_fact 0
  by_asked : (sheet : Sheet) → SheetIs bytes sheet → store < 2 ^ sheet.facts → 2 ^ sheet.facts ≤ asked → RefusesAsk bytes store asked room absent_fact 1
  -- 22: fewer numbers than labels
  by_room : (sheet : Sheet) → SheetIs bytes sheet → store < 2 ^ sheet.facts → asked < 2 ^ sheet.facts
      → room < length (asked_on sheet store asked).listed → RefusesAsk bytes store asked room short_answer (length (asked_on sheet store asked).listed)

-- What goes with labels: they stand in front of the slice, the rest of it is as before, and they are those of the closed store and the
-- closed asked set.
pub record LabelsPromise (bytes : List ℕ) (store asked : ℕ) (before after : List ℕ) (x : LabelsFound) : Type 0 where
  pub sheet : Sheet
  pub is : SheetIs bytes sheet
  pub facts : (store < 2 ^ sheet.facts) × (asked < 2 ^ sheet.facts)
  pub fits : x.count ≤ length before
  pub counted : length (take x.count after) ≡ x.count
  pub faithful : FaithfulLabels sheet (closure sheet.rules store) (closure sheet.rules asked) (take x.count after) x.tried
  pub behind : drop x.count after ≡ drop x.count before

-- The slice `before` became `after`, and `answer` was returned: each refusal under its condition and no other, and otherwise the labels.
abbrev pub AskPromise : List ℕ → ℕ → ℕ → List ℕ → List ℕ → Outcome LabelsFound → Type 0
AskPromise bytes store asked before after (reported x) = LabelsPromise bytes store asked before after x
AskPromise bytes store asked before after (refusal number place) =
    RefusesAsk bytes store asked (length before) number place × (after ≡ before)
