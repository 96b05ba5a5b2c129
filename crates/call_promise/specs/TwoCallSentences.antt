-- Document 02, card 3, sentence by sentence, in other words than `TwoCalls` has them: what follows for a caller who has both answers.
use Rattle.answers.specs.Outcome.{Outcome, refusal, reported}
use Rattle.std.specs.Prelude.{◌≡◌, ◌⊎◌, List, ℕ, take}
use Rattle.std.proofs.Common.{sym, ap, ◌∙◌, ⊎_elim, arith}
use Rattle.answers.specs.Refusals.{large_set, short_answer}
use Rattle.answers.specs.Sheet.{Sheet}
use Rattle.answers.specs.SheetBytes.{ChoiceIs}
use Rattle.answers.specs.CallLimits.{Limits}
use Rattle.answers.specs.Promise.{PassesLimit, starts_of}
use Rattle.answers.specs.declared.Reported.{Reported}
use Rattle.call_promise.specs.TwoCalls.{OneCall, OneReport, LargeBy, LowerCall}

-- no report is a refusal, and a refusal has one number
pub report_never : {x : Reported} {number place : ℕ} → reported x ≡ refusal number place → ⊥
report_never e = let z : ◌≡◌ {A = ℕ} 0 1 = cc in omega arith

pub same_number : {k p number place : ℕ} → ◌≡◌ {A = Outcome Reported} (refusal k p) (refusal number place) → k ≡ number
same_number e = cc

-- both report: verdict, round, places and length are the same, and so are the bytes up to that length
pub one_length : {x y : Reported} {after after2 : List ℕ} → OneReport x after y after2
    → (x ≡ y) × (take x.length after ≡ take x.length after2)
one_length {x} {y} {after} {after2} r =
    (r.returns, r.written ∙ ap (λ (z : Reported). take z.length after2) (sym r.returns))

module _ {l : Limits} {bytes : List ℕ} {left right : ℕ} {w after : List ℕ} {answer : Outcome Reported} {w2 after2 : List ℕ} {answer2 : Outcome Reported}
    (two : LowerCall l bytes left right w after answer w2 after2 answer2) where
  -- where the lower does not give 21 the two do the same
  not_large : (answer ≡ refusal large_set 0 → ⊥) → OneCall w after answer w2 after2 answer2
  not_large n =
      ⊎_elim (λ (o : OneCall w after answer w2 after2 answer2). o)
      (λ (x : (answer ≡ refusal large_set 0) × LargeBy l bytes left right). absurd (n x.0)) two.apart

  -- what the lower reports the higher reports, with the same bytes and the work slice left the same
  pub report_above : (x : Reported) → answer ≡ reported x → (answer2 ≡ reported x) × (after ≡ after2) × (w ≡ w2)
  report_above x e = let o = not_large (λ f. report_never (sym e ∙ f)) in (sym o.answers ∙ e, o.bytes, o.works)

  -- any refusal of the lower but 21 is the higher's, number and place
  pub refusal_above : (number place : ℕ) → answer ≡ refusal number place → (number ≡ large_set → ⊥) → answer2 ≡ refusal number place
  refusal_above number place e n = sym (not_large (λ f. n (same_number (sym e ∙ f)))).answers ∙ e

  -- any refusal of the higher but 22 is the lower's, number and place: so 21 of the higher is 21 of the lower
  pub refusal_below : (number place : ℕ) → answer2 ≡ refusal number place → (number ≡ short_answer → ⊥) → answer ≡ refusal number place
  refusal_below number place e n = (two.higher_refuses number place e n).answers ∙ e

  -- where anything differs, the lower gave 21, and the set of these two starts passes its limits
  pub differing : (OneCall w after answer w2 after2 answer2 → ⊥)
      → (answer ≡ refusal large_set 0) × ((sheet : Sheet) × ChoiceIs bytes left right sheet × PassesLimit sheet l (starts_of sheet left right))
  differing n =
      ⊎_elim (λ (o : OneCall w after answer w2 after2 answer2). absurd (n o))
      (λ (x : (answer ≡ refusal large_set 0) × LargeBy l bytes left right). (x.0, (x.1.sheet, x.1.chosen, x.1.passes))) two.apart
