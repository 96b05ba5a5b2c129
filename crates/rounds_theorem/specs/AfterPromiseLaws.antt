-- The call for so many rounds keeps its promise.
use Rattle.std.specs.Prelude.{◌≡◌, refl, ◌↔◌, ℕ, ◌≤◌, ◌<◌, length, drop}
use Rattle.std.proofs.Common.{sym, ap, ap₂, ◌∙◌, subst, arith}
use mathlib.Core.List.{List, ◌++◌, Memᴰ}
use Rattle.answers.specs.Refusals.{short_answer}
use Rattle.answers.specs.Sheet.{Sheet, start}
use Rattle.answers.specs.SheetBytes.{ChoiceIs}
use Rattle.answers.specs.SheetRead.{choice_reads}
use Rattle.call_theorem.specs.ReadingLaws.{written_admissible}
use Rattle.call_theorem.specs.RefusalNumbers.{number_low}
use Rattle.answers.specs.CallLimits.{Limits, NoGreater, limits, desk_limits}
use Rattle.answers.specs.Outcome.{cleared, Outcome, refusal, reported}
use Rattle.answers.specs.Promise.{PassesLimit, starts_of}
use Rattle.call_theorem.specs.RoomLaws.{never_short_answer}
use Rattle.call_theorem.specs.LimitLaws.{own_limits, desk_no_greater}
use Rattle.promise_laws.specs.PromiseKept.{Variants, promise_kept}
use Rattle.call_theorem.specs.ClassTotals.{total_in_use}
use Rattle.after_rounds.specs.AfterRounds.{AfterRounds, after_bytes, after_length, after_room, compare_rounds_with, compare_rounds, compare_rounds_desk}
use Rattle.after_rounds.specs.AfterRoundsRead.{reached_of, afters_returned, after_read}
use Rattle.after_rounds.specs.AfterRoundsPromise.{FaithfulAfter, after_for, RefusesAfter, GivesAfter, ReachedPromise, RoundsPromise}
use Rattle.after_rounds.specs.declared.Reached.{Reached}
use Rattle.rounds_call.specs.ComparedRounds.{ComparedRounds}
use Rattle.rounds_theorem.specs.AfterTheorem.{after_refuses, after_gives, after_faithful, after_room_lem, after_back}

-- an answer is no refusal, and each of both has its own arguments
variants : Variants {X = Reached} refusal reported
variants =
    record {
      never = λ x number place e. let z : ◌≡◌ {A = ℕ} 0 1 = cc in omega arith;
      one_refusal = λ k p number place e. (cc, cc);
      one_given = λ x y e. cc;
    }

module _ (l : Limits) (bytes : List ℕ) (left right k : ℕ) where
  -- no answer is longer than the room that the limits name
  within_room : (sheet : Sheet) → ChoiceIs bytes left right sheet → (PassesLimit sheet l (starts_of sheet left right) → ⊥)
      → after_length (after_for l sheet left right k) ≤ after_room l
  within_room sheet c none = after_room_lem l sheet (written_admissible bytes sheet c.written) left right c.left_there c.right_there none k

  module _ (small : NoGreater l limits) (v before w after : List ℕ) (answer : Outcome Reached) where
    -- what goes with an answer that was returned and written
    reached_made : (a : AfterRounds) → GivesAfter l bytes left right k (length v) (length before) a → (x : Reached) → x ≡ reached_of a
        → after ≡ after_bytes a ++ drop (after_length a) before → w ≡ cleared v → ReachedPromise l bytes left right k v before w after x
    reached_made a g x says bytes_are work-is =
        let sheet : Sheet = g.sheet in
        let c = g.read in
        let fine = written_admissible bytes sheet c.written in
        let is : a ≡ after_for l sheet left right k = g.given in
        let back : after_read x after ≡ a =
        ap₂ after_read (says ∙ ap reached_of is) (bytes_are ∙ ap (λ (b : AfterRounds). after_bytes b ++ drop (after_length b) before) is)
        ∙ after_back l sheet fine left right c.left_there c.right_there g.no_limit k small (drop (after_length (after_for l sheet left right k)) before)
        ∙ sym is in
        let faithful : FaithfulAfter sheet k (start sheet left) (start sheet right) (after_read x after) =
        subst (FaithfulAfter sheet k (start sheet left) (start sheet right)) (sym (back ∙ is))
        (after_faithful l sheet fine left right c.left_there c.right_there g.no_limit k) in
        let returned : x ≡ reached_of (after_read x after) = says ∙ ap reached_of (sym back) in
        record {
          gives = subst (GivesAfter l bytes left right k (length v) (length before)) (sym back) g;
          faithful = (sheet, c, faithful);
          returned = returned;
          counted = λ n.
              subst (λ (y : Reached). (n < y.classes) ↔ Memᴰ n (after_read x after).classes) (sym returned)
              (total_in_use (after_read x after).classes faithful.listed.numbering n);
          written = bytes_are ∙ ap₂ (λ (b : AfterRounds) (y : Reached). after_bytes b ++ drop y.length before) (sym back) (sym says);
          work = work-is;
        }

    -- the call keeps it
    pub rounds_promise : ComparedRounds (compare_rounds_with l bytes left right k (length v) (length before)) v before w after answer
        → RoundsPromise l bytes left right k v before w after answer
    rounds_promise =
        promise_kept after_bytes afters_returned (RefusesAfter l bytes left right k) reached_of (GivesAfter l bytes left right k)
        (ReachedPromise l bytes left right k) variants (λ number place. refl) (λ a. refl)
        (compare_rounds_with l bytes left right k (length v) (length before)) (after_refuses l bytes left right k (length v) (length before))
        (after_gives l bytes left right k (length v) (length before)) reached_made

-- within document 01's limits
pub rounds_document_promise : (bytes : List ℕ) (left right k : ℕ) (v before w after : List ℕ) (answer : Outcome Reached)
    → ComparedRounds (compare_rounds bytes left right k (length v) (length before)) v before w after answer
    → RoundsPromise limits bytes left right k v before w after answer
rounds_document_promise bytes left right k = rounds_promise limits bytes left right k (own_limits limits)

-- and within the desk's
pub rounds_desk_promise : (bytes : List ℕ) (left right k : ℕ) (v before w after : List ℕ) (answer : Outcome Reached)
    → ComparedRounds (compare_rounds_desk bytes left right k (length v) (length before)) v before w after answer
    → RoundsPromise desk_limits bytes left right k v before w after answer
rounds_desk_promise bytes left right k = rounds_promise desk_limits bytes left right k desk_no_greater

-- ---- the room that the limits name
module _ {l : Limits} {bytes : List ℕ} {left right k : ℕ} {v before w after : List ℕ} {answer : Outcome Reached}
    (a : RoundsPromise l bytes left right k v before w after answer) where
  -- no answer is longer
  pub after_within : (x : Reached) → answer ≡ reported x → x.length ≤ after_room l
  after_within x e =
      let m = a.made x e in
      let g = m.gives in
      subst (λ (y : Reached). y.length ≤ after_room l) (sym (m.returned ∙ ap reached_of g.given))
      (within_room l bytes left right k g.sheet g.read g.no_limit)

  -- and with that room 22 is not given
  pub after_room_enough : {place : ℕ} → after_room l ≤ length before → answer ≡ refusal short_answer place → ⊥
  after_room_enough {place} room e =
      never_short_answer
      (λ n x. omega (arith, (number_low bytes left right short_answer n ((choice_reads bytes left right).is_refused short_answer n x)).within))
      (λ sheet c none. omega (arith, room, within_room l bytes left right k sheet c none)) (a.refused short_answer place e).refuses
