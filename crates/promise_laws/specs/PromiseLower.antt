-- Card 3 for any call on two starts: two calls that keep their promises on the same input and with the same slices, the first within limits
-- that are nowhere above those of the second.
use Rattle.std.specs.Prelude.{◌≡◌, ◌⊎◌, List, ℕ, length}
use Rattle.std.proofs.Common.{inl, inr}
use Rattle.call_frame.specs.Refusals.{large_set}
use Rattle.call_frame.specs.Sheet.{Sheet}
use Rattle.call_frame.specs.SheetBytes.{ChoiceIs, ChoiceRefused}
use Rattle.call_frame.specs.CallLimits.{Limits, NoGreater}
use Rattle.call_frame.specs.Outcome.{Outcome}
use Rattle.call_frame.specs.Promise.{PassesLimit, RefusesBy, large_set_lem, GivesBy, PromiseBy, starts_of}
use Rattle.call_frame.specs.FrameTheorem.{Decides}
use Rattle.call_frame.specs.LimitLaws.{BesideBy, answer_of_both, refusal_of_both, lower_large, refuses_lower, beside, one_choice}
use Rattle.call_promise.specs.TwoCalls.{OneCall, LargeBy, LowerBy}
use Rattle.promise_laws.specs.PromiseAlone.{both_refuse, both_give}

-- the same was returned and left
pub one_call : {R : Type 0} {w after : List ℕ} {answer : R} {w2 after2 : List ℕ} {answer2 : R} → (answer ≡ answer2) × (after ≡ after2) × (w ≡ w2)
    → OneCall w after answer w2 after2 answer2
one_call x = record { answers = x.0; bytes = x.1; works = x.2 }

-- `made` is what the call makes of a sheet within limits, `size` its length, and `of` what is returned of it
module _ {A : Type 0} (bytes : List ℕ) (left right : ℕ) (made : Limits → Sheet → A) (size : A → ℕ)
    (same : (l h : Limits) (sheet : Sheet) → (PassesLimit sheet l (starts_of sheet left right) → ⊥) → (PassesLimit sheet h (starts_of sheet left right) → ⊥)
    → made l sheet ≡ made h sheet) (l h : Limits) (le : NoGreater l h) where
  abbrev RefusesIn : Limits → ℕ → ℕ → ℕ → ℕ → Type 0
  RefusesIn k =
      RefusesBy (ChoiceIs bytes left right) (ChoiceRefused bytes left right) k (λ sheet. starts_of sheet left right) (λ sheet. size (made k sheet))

  abbrev GivesIn : Limits → ℕ → ℕ → A → Type 0
  GivesIn k = GivesBy (ChoiceIs bytes left right) k (λ sheet. starts_of sheet left right) (made k) size

  pub lower_kept : {X R : Type 0} {refuse : ℕ → ℕ → R} {give : X → R} {of : A → X} {Made Made2 : List ℕ → List ℕ → List ℕ → List ℕ → X → Type 1} {v before w after : List ℕ} {answer : R} {w2 after2 : List ℕ} {answer2 : R}
      → PromiseBy refuse (RefusesIn l) give of (GivesIn l) Made v before w after answer
      → PromiseBy refuse (RefusesIn h) give of (GivesIn h) Made2 v before w2 after2 answer2
      → ((x : X) → Made v before w after x → Made2 v before w2 after2 x → (after ≡ after2) × (w ≡ w2))
      → {o : Outcome A} → Decides (RefusesIn l (length v) (length before)) (GivesIn l (length v) (length before)) o
      → LowerBy refuse l bytes left right w after answer w2 after2 answer2
  lower_kept {refuse = refuse} {v = v} {before} {w} {after} {answer} {w2} {after2} {answer2} a b fixed decided =
      record {
        apart = given (beside (ChoiceIs bytes left right) (ChoiceRefused bytes left right) (λ sheet. starts_of sheet left right) made size
            (one_choice bytes left right) same l h le decided);
        higher_refuses = λ number place e n.
            let x = (b.refused number place e).refuses in
            one_call (both_refuse a b
            (refuses_lower (ChoiceIs bytes left right) (ChoiceRefused bytes left right) (λ sheet. starts_of sheet left right) made size
            (one_choice bytes left right) same l h le x n) x);
      }
    where
      given : BesideBy (ChoiceIs bytes left right) (ChoiceRefused bytes left right) (λ sheet. starts_of sheet left right) made size l h (length v) (length before)
          → OneCall w after answer w2 after2 answer2 ⊎ ((answer ≡ refuse large_set 0) × LargeBy l bytes left right)
      given (answer_of_both x y) = inl (one_call (both_give a b fixed x y))
      given (refusal_of_both x y) = inl (one_call (both_refuse a b x y))
      given (lower_large sheet e k p) = inr (a.to_refuse large_set 0 (large_set_lem sheet e k p), record { sheet = sheet; chosen = e; passes = p })
