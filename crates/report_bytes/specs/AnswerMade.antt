-- What is made of a set that stands in the work slice, whatever a call answers with: 22 where the answer slice is too short, and
-- otherwise the answer's bytes in front of it.
use Rattle.std.specs.Prelude.{◌≡◌, List, ◌++◌, ℕ, ◌≤◌, ◌<◌, length, drop}
use Rattle.std.proofs.Common.{sym, ap, ◌∙◌, subst}
use Rattle.work_layout.specs.Frames.{SameOutside}
use Rattle.comparison_laws.specs.Refusals.{short_answer}
use Rattle.comparison_laws.specs.Sheet.{Configuration, Sheet}
use Rattle.work_layout.specs.WorkLayout.{work_end}
use Rattle.comparison_laws.specs.Outcome.{Outcome, reported, refusal, written_after}
use Rattle.comparison_laws.specs.Frame.{with_room}
use Rattle.comparison_laws.specs.RoomLaws.{room_short, room_given}

-- `make` makes the answer of a sheet and its set, `written` are its bytes, and `Held` says which sets stand in v
module _ {A R : Type 0} (written : A → List ℕ) (returned : Outcome A → R) (make : Sheet → List Configuration → A)
    (Held : Sheet → List Configuration → Type 0) where
  -- The work slice v became w, the answer slice `before` became `after`, and `answer` was returned: the outcome, whatever set stands
  -- in v; nothing behind the work places is changed.
  pub record AnswerMade (v before w after : List ℕ) (answer : R) : Type 0 where
    pub outside : SameOutside 0 work_end v w
    pub answers : (sheet : Sheet) (set : List Configuration) → Held sheet set
        → answer ≡ returned (with_room written (length before) (make sheet set))
    pub bytes : (sheet : Sheet) (set : List Configuration) → Held sheet set
        → after ≡ written_after written (with_room written (length before) (make sheet set)) before

  -- `bs` are the answer's bytes
  module _ {v w : List ℕ} (only : SameOutside 0 work_end v w) (bs : List ℕ)
      (are : (sheet : Sheet) (set : List Configuration) → Held sheet set → bs ≡ written (make sheet set)) (before : List ℕ) where
    -- the answer slice is too short
    pub made_refused : length before < length bs → AnswerMade v before w before (returned (refusal short_answer (length bs)))
    made_refused h =
        record {
          outside = only;
          answers = λ sheet set S. ap returned (sym (refused sheet set S));
          bytes = λ sheet set S. ap (λ (o : Outcome A). written_after written o before) (sym (refused sheet set S));
        }
      where
        refused : (sheet : Sheet) (set : List Configuration) → Held sheet set
            → with_room written (length before) (make sheet set) ≡ refusal short_answer (length bs)
        refused sheet set S =
            room_short written (length before) (make sheet set) (subst (λ (x : List ℕ). length before < length x) (are sheet set S) h)
            ∙ ap (λ (x : List ℕ). refusal short_answer (length x)) (sym (are sheet set S))

    -- the bytes are written into its front
    pub made_given : length bs ≤ length before → {after : List ℕ} {answer : R} → after ≡ bs ++ drop (length bs) before
        → ((sheet : Sheet) (set : List Configuration) → Held sheet set → answer ≡ returned (reported (make sheet set)))
        → AnswerMade v before w after answer
    made_given h e says =
        record {
          outside = only;
          answers = λ sheet set S. says sheet set S ∙ ap returned (sym (given sheet set S));
          bytes = λ sheet set S.
              e ∙ ap (λ (x : List ℕ). x ++ drop (length x) before) (are sheet set S)
              ∙ ap (λ (o : Outcome A). written_after written o before) (sym (given sheet set S));
        }
      where
        given : (sheet : Sheet) (set : List Configuration) → Held sheet set → with_room written (length before) (make sheet set) ≡ reported (make sheet set)
        given sheet set S =
            room_given written (length before) (make sheet set) (subst (λ (x : List ℕ). length x ≤ length before) (are sheet set S) h)
