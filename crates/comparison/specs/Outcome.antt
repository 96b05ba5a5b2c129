-- What a call gives, and what it leaves in the slices that were lent.
use Rattle.std.specs.Prelude.{Bool, cond, ◌||◌, List, ◌++◌, ℕ, length, drop, replicate, eqb}
use Rattle.moves.specs.Refusals.{large_set, short_answer}
use Rattle.comparison.specs.CallLimits.{work_length}

-- what a call gives, or a refusal's number and place
pub data Outcome (A : Type 0) : Type 0 where
  reported : A → Outcome A
  refusal : (number : ℕ) → (place : ℕ) → Outcome A

-- The answer slice: the bytes of what the call gives, and those beyond them stay; a refusal leaves it untouched.
abbrev pub written_after : {A : Type 0} → (A → List ℕ) → Outcome A → List ℕ → List ℕ
written_after bytes (reported a) before = bytes a ++ drop (length (bytes a)) before
written_after bytes (refusal number place) before = before

-- the first 16,384 numbers 0, later elements untouched
abbrev pub cleared : List ℕ → List ℕ
cleared before = replicate work_length 0 ++ drop work_length before

-- the refusals after which the work slice is cleared
abbrev pub clears : ℕ → Bool
clears number = eqb number large_set || eqb number short_answer

-- the work slice after a refusal: cleared, or as it was
abbrev pub work_refused : ℕ → List ℕ → List ℕ
work_refused number before = cond (clears number) (cleared before) before

-- The work slice: cleared after what a call gives, 21 and 22; any other refusal changes nothing.
abbrev pub work_after : {A : Type 0} → Outcome A → List ℕ → List ℕ
work_after (reported a) before = cleared before
work_after (refusal number place) before = work_refused number before
