-- What the answers of readers stand for: the readings of document 01.
use Rattle.std.specs.Prelude.{ℕ, Option, Some, None, Result, Ok, Err}
use Rattle.sheet_laws.specs.Reading.{Reading, got, refused}
use Rattle.refusals.specs.Numbers.{number}
use Rattle.refusals.specs.declared.Refused.{Refused}
use Rattle.sheet_types.specs.KindBytes.{kind_byte}
use Rattle.sheet_types.specs.declared.Field.{Field}
use Rattle.sheet_fields.specs.declared.KindField.{KindField}

-- what was read has a value and the place after it; a refusal its number and place
abbrev pub read_as : {T A : Type 0} → (T → A) → (T → ℕ) → Result T Refused → Reading A
read_as value next (Ok x) = got (value x) (next x)
read_as value next (Err e) = refused (number e.refusal) e.place

-- a field
abbrev pub answer : Result Field Refused → Reading ℕ
answer = read_as (λ f. f.value) (λ f. f.next)

-- a field, and where there is none a refusal with this number at this place
abbrev pub answer_or : ℕ → ℕ → Result (Option Field) Refused → Reading ℕ
answer_or n at (Ok (Some f)) = got f.value f.next
answer_or n at (Ok None) = refused n at
answer_or n at (Err e) = refused (number e.refusal) e.place

-- a kind
abbrev pub kind_answer : Result KindField Refused → Reading ℕ
kind_answer = read_as (λ f. kind_byte f.kind) (λ f. f.next)

-- a field, with what stands beside it made from its value
abbrev pub answer_with : {A : Type 0} → (ℕ → A) → Result Field Refused → Reading A
answer_with made = read_as (λ f. made f.value) (λ f. f.next)
