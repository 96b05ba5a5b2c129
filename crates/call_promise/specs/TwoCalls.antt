-- Two calls on one sheet and one choice, side by side: said of what was returned and of what stands in the slices afterwards. Document
-- 02, card 3, is about two calls that differ in their limits alone.
use Rattle.answers.specs.Outcome.{Outcome, refusal}
use Rattle.std.specs.Prelude.{◌≡◌, ◌⊎◌, List, ℕ, take}
use Rattle.answers.specs.Refusals.{large_set, short_answer}
use Rattle.answers.specs.Sheet.{Sheet}
use Rattle.answers.specs.SheetBytes.{ChoiceIs}
use Rattle.answers.specs.CallLimits.{Limits}
use Rattle.answers.specs.Promise.{PassesLimit, starts_of}
use Rattle.answers.specs.declared.Reported.{Reported}

-- the two did the same: what was returned, and both slices
pub record OneCall {R : Type 0} (w after : List ℕ) (answer : R) (w2 after2 : List ℕ) (answer2 : R) : Type 0 where
  pub answers : answer ≡ answer2
  pub bytes : after ≡ after2
  pub works : w ≡ w2

-- Neither was refused, and x and y were returned, of which `size` is the number of bytes: the same was returned, and the same bytes were
-- written, in front of answer slices that may differ in length and in what stood there before.
pub record OneWritten {X : Type 0} (size : X → ℕ) (x : X) (after : List ℕ) (y : X) (after2 : List ℕ) : Type 0 where
  pub returns : x ≡ y
  pub written : take (size x) after ≡ take (size y) after2

-- both reported
abbrev pub OneReport : Reported → List ℕ → Reported → List ℕ → Type 0
OneReport = OneWritten (λ x. x.length)

-- the set of the two starts passes one of these limits
pub record LargeBy (l : Limits) (bytes : List ℕ) (left right : ℕ) : Type 0 where
  pub sheet : Sheet
  pub chosen : ChoiceIs bytes left right sheet
  pub passes : PassesLimit sheet l (starts_of sheet left right)

-- Card 3, of one input and the same slices, for any call on two starts, whose refusals are `refuse`: the first call within limits l, which
-- are nowhere above those of the second.
pub record LowerBy {R : Type 0} (refuse : ℕ → ℕ → R) (l : Limits) (bytes : List ℕ) (left right : ℕ) (w after : List ℕ) (answer : R)
    (w2 after2 : List ℕ) (answer2 : R) : Type 0 where
  -- the two do the same, or the lower gives 21 by its own numbers
  pub apart : OneCall w after answer w2 after2 answer2 ⊎ ((answer ≡ refuse large_set 0) × LargeBy l bytes left right)
  -- where the higher refuses by another number than 22, the two do the same: beside the lower's 21 it gives an answer, 21 or 22
  pub higher_refuses : (number place : ℕ) → answer2 ≡ refuse number place → (number ≡ short_answer → ⊥) → OneCall w after answer w2 after2 answer2

-- the comparing call
abbrev pub LowerCall : Limits → List ℕ → ℕ → ℕ → List ℕ → List ℕ → Outcome Reported → List ℕ → List ℕ → Outcome Reported → Type 0
LowerCall = LowerBy refusal
