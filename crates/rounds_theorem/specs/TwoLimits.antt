-- The call for so many rounds within two limits, after the same number of rounds.
use Rattle.answers.specs.Outcome.{Outcome, reported}
use Rattle.std.specs.Prelude.{◌≡◌, refl, List, ◌++◌, ℕ, length, take, drop}
use Rattle.std.proofs.Common.{sym, ap, ◌∙◌}
use Rattle.std.proofs.Math.Seq.{take-append_seam}
use Rattle.answers.specs.Sheet.{Configuration, Sheet, start}
use Rattle.answers.specs.SheetBytes.{ChoiceIs, ChoiceRefused}
use Rattle.answers.specs.CallLimits.{Limits, NoGreater, limits, desk_limits}
use Rattle.answers.specs.Promise.{PassesLimit, starts_of}
use Rattle.call_theorem.specs.LimitLaws.{desk_no_greater, explored_same, gives_same, one_choice}
use Rattle.promise_laws.specs.PromiseLower.{lower_kept}
use Rattle.after_rounds.specs.AfterRounds.{AfterRounds, after_on, after_bytes, after_length, compare_rounds, compare_rounds_desk}
use Rattle.after_rounds.specs.AfterRoundsRead.{reached_of, after_read}
use Rattle.after_rounds.specs.AfterRoundsPromise.{after_for, GivesAfter, ReachedPromise, RoundsPromise, OneAnswer, LowerRounds}
use Rattle.after_rounds.specs.declared.Reached.{Reached}
use Rattle.rounds_call.specs.ComparedRounds.{ComparedRounds}
use Rattle.rounds_theorem.specs.AfterTheorem.{after_decides}
use Rattle.rounds_theorem.specs.AfterPromiseLaws.{rounds_document_promise, rounds_desk_promise}

-- where neither limit is passed, the answer is one
pub after_same : (left right k : ℕ) (l h : Limits) (sheet : Sheet) → (PassesLimit sheet l (starts_of sheet left right) → ⊥)
    → (PassesLimit sheet h (starts_of sheet left right) → ⊥) → after_for l sheet left right k ≡ after_for h sheet left right k
after_same left right k l h sheet nl nh =
    ap (λ (set : List Configuration). after_on sheet set k (start sheet left) (start sheet right))
    (explored_same sheet (starts_of sheet left right) l h nl nh)

-- the bytes in front of the answer slice are the answer's
front_read : {l : Limits} {bytes : List ℕ} {left right k : ℕ} {v before w after : List ℕ} {x : Reached}
    → ReachedPromise l bytes left right k v before w after x → take x.length after ≡ after_bytes (after_read x after)
front_read {before = before} {after = after} {x = x} m =
    let bs : List ℕ = after_bytes (after_read x after) in
    ap (λ (y : Reached). take y.length after) m.returned ∙ ap (take (length bs)) m.written ∙ take-append_seam bs (drop x.length before)

module _ (l h : Limits) (bytes : List ℕ) (left right k : ℕ) where
  -- a sheet and a choice have one answer
  answers_same : {work answer work2 answer2 : ℕ} {a b : AfterRounds} → GivesAfter l bytes left right k work answer a
      → GivesAfter h bytes left right k work2 answer2 b → a ≡ b
  answers_same =
      gives_same (ChoiceIs bytes left right) (ChoiceRefused bytes left right) (λ sheet. starts_of sheet left right)
      (λ i sheet. after_for i sheet left right k) after_length (one_choice bytes left right) (after_same left right k) l h

  -- where both answer, they return and write the same
  pub one_answer : {v before w after : List ℕ} {x : Reached} {v2 before2 w2 after2 : List ℕ} {y : Reached}
      → RoundsPromise l bytes left right k v before w after (reported x) → RoundsPromise h bytes left right k v2 before2 w2 after2 (reported y)
      → OneAnswer x after y after2
  one_answer {after = after} {x} {after2 = after2} {y} a b =
      let m = a.made x refl in
      let n = b.made y refl in
      let same : after_read x after ≡ after_read y after2 = answers_same m.gives n.gives in
      record {
        returns = m.returned ∙ ap reached_of same ∙ sym n.returned;
        written = front_read m ∙ ap after_bytes same ∙ sym (front_read n);
      }

  -- ---- the same slices
  -- an answer fixes what is left in both
  pub answer_fixes : {v before w after w2 after2 : List ℕ} {x : Reached} → ReachedPromise l bytes left right k v before w after x
      → ReachedPromise h bytes left right k v before w2 after2 x → (after ≡ after2) × (w ≡ w2)
  answer_fixes {before = before} {x = x} m n = (
    m.written ∙ ap (λ (a : AfterRounds). after_bytes a ++ drop x.length before) (answers_same m.gives n.gives) ∙ sym n.written,
    m.work ∙ sym n.work,
  )

  -- card 3, for any two limits of which the first are nowhere above the second
  pub lower_rounds : (v before : List ℕ) {w after : List ℕ} {answer : Outcome Reached} {w2 after2 : List ℕ} {answer2 : Outcome Reached}
      → RoundsPromise l bytes left right k v before w after answer → RoundsPromise h bytes left right k v before w2 after2 answer2 → NoGreater l h
      → LowerRounds l bytes left right w after answer w2 after2 answer2
  lower_rounds v before a b le =
      lower_kept bytes left right (λ i sheet. after_for i sheet left right k) after_length (after_same left right k) l h le a b (λ x. answer_fixes)
      (after_decides l bytes left right k (length v) (length before))

-- ---- the desk's call beside document 01's, from the contracts of both
module _ (bytes : List ℕ) (left right k : ℕ) where
  -- both answer, each in slices of its own
  pub desk_one_answer : {v before w after : List ℕ} {x : Reached} {v2 before2 w2 after2 : List ℕ} {y : Reached}
      → ComparedRounds (compare_rounds_desk bytes left right k (length v) (length before)) v before w after (reported x)
      → ComparedRounds (compare_rounds bytes left right k (length v2) (length before2)) v2 before2 w2 after2 (reported y) → OneAnswer x after y after2
  desk_one_answer {v} {before} {w} {after} {x} {v2} {before2} {w2} {after2} {y} a b =
      one_answer desk_limits limits bytes left right k (rounds_desk_promise bytes left right k v before w after (reported x) a)
      (rounds_document_promise bytes left right k v2 before2 w2 after2 (reported y) b)

  -- the same slices
  pub desk_lower_rounds : {v before w after : List ℕ} {answer : Outcome Reached} {w2 after2 : List ℕ} {answer2 : Outcome Reached}
      → ComparedRounds (compare_rounds_desk bytes left right k (length v) (length before)) v before w after answer
      → ComparedRounds (compare_rounds bytes left right k (length v) (length before)) v before w2 after2 answer2
      → LowerRounds desk_limits bytes left right w after answer w2 after2 answer2
  desk_lower_rounds {v} {before} {w} {after} {answer} {w2} {after2} {answer2} a b =
      lower_rounds desk_limits limits bytes left right k v before (rounds_desk_promise bytes left right k v before w after answer a)
      (rounds_document_promise bytes left right k v before w2 after2 answer2 b) desk_no_greater
