-- What a call returned, as an outcome: what it gives, or the refusal's number and place.
use Rattle.std.specs.Prelude.{Result, Ok, Err, ℕ}
use Rattle.comparison.specs.Outcome.{Outcome, reported, refusal}
use Rattle.refusals.specs.Numbers.{number}
use Rattle.refusals.specs.declared.Refused.{Refused}

-- what the calls return: what is given, or the error
abbrev pub CallResult : Type 0 → Type 0
CallResult A = Result A Refused

-- as an outcome, where the error, of any type, has a number and a place
abbrev pub outcome_with : {A E : Type 0} → (E → ℕ) → (E → ℕ) → Result A E → Outcome A
outcome_with number_of place_of (Ok x) = reported x
outcome_with number_of place_of (Err e) = refusal (number_of e) (place_of e)

abbrev pub outcome_of : {A : Type 0} → CallResult A → Outcome A
outcome_of = outcome_with (λ e. number e.refusal) (λ e. e.place)
