-- The call for all starts keeps its promise.
use Rattle.std.specs.Prelude.{◌≡◌, refl, List, ◌++◌, ℕ, ◌≤◌, length, drop}
use Rattle.std.proofs.Common.{sym, ap, ap₂, ◌∙◌, subst, arith}
use Rattle.answers.specs.Refusals.{short_answer}
use Rattle.answers.specs.SheetRead.{sheet_reads}
use Rattle.call_theorem.specs.ReadingLaws.{written_admissible}
use Rattle.call_theorem.specs.RefusalNumbers.{sheet_number_low}
use Rattle.answers.specs.CallLimits.{Limits, NoGreater, limits}
use Rattle.answers.specs.Outcome.{reported, cleared, Outcome, refusal}
use Rattle.call_theorem.specs.RoomLaws.{never_short_answer}
use Rattle.call_theorem.specs.LimitLaws.{own_limits}
use Rattle.promise_laws.specs.PromiseKept.{Variants, promise_kept}
use Rattle.all_starts.specs.Grouping.{Grouping, grouping_bytes, grouping_length, grouping_room, grouping_after, compare_all_with, compare_all}
use Rattle.all_starts.specs.GroupingRead.{grouped_of, groups_returned, grouping_read}
use Rattle.all_starts.specs.GroupingPromise.{FaithfulAll, grouping_for, RefusesAll, GivesAll, GroupingPromise, AllPromise}
use Rattle.all_starts.specs.declared.Grouped.{Grouped}
use Rattle.all_call.specs.ComparedAll.{ComparedAll}
use Rattle.all_theorem.specs.AllTheorem.{all_refuses, all_gives, grouping_faithful, grouping_room_lem, grouping_back}

-- a grouping is no refusal, and each of both has its own arguments
variants : Variants {X = Grouped} refusal reported
variants =
    record {
      never = λ x number place e. let z : ◌≡◌ {A = ℕ} 0 1 = cc in omega arith;
      one_refusal = λ k p number place e. (cc, cc);
      one_given = λ x y e. cc;
    }

module _ (l : Limits) (bytes v before w after : List ℕ) (answer : Outcome Grouped) (small : NoGreater l limits) where
  -- what goes with a grouping that was returned and written
  grouping_made : (g : Grouping) → GivesAll l bytes (length v) (length before) g → (x : Grouped) → x ≡ grouped_of g
      → after ≡ grouping_after (reported g) before → w ≡ cleared v → GroupingPromise l bytes v before w after x
  grouping_made g given x says bytes_are work-is =
      let fine = written_admissible bytes given.sheet given.read in
      let is : g ≡ grouping_for l given.sheet = given.given in
      let back : grouping_read x after ≡ g =
      ap₂ grouping_read (says ∙ ap grouped_of is) (bytes_are ∙ ap (λ (k : Grouping). grouping_after (reported k) before) is)
      ∙ grouping_back l given.sheet fine given.no_limit small (drop (grouping_length (grouping_for l given.sheet)) before) ∙ sym is in
      let long : x.length ≡ grouping_length g = ap (λ (y : Grouped). y.length) says in
      record {
        gives = subst (GivesAll l bytes (length v) (length before)) (sym back) given;
        faithful = (given.sheet, given.read, subst (FaithfulAll given.sheet) (sym (back ∙ is)) (grouping_faithful l given.sheet fine given.no_limit));
        long = long ∙ ap grouping_length (sym back);
        written = bytes_are ∙ ap₂ (λ (k : Grouping) (n : ℕ). grouping_bytes k ++ drop n before) (sym back) (sym long);
        work = work-is;
      }

  -- the call keeps it
  pub all_promise : ComparedAll (compare_all_with l bytes (length v) (length before)) v before w after answer
      → AllPromise l bytes v before w after answer
  all_promise =
      promise_kept grouping_bytes groups_returned (RefusesAll l bytes) grouped_of (GivesAll l bytes) (GroupingPromise l bytes) variants
      (λ number place. refl) (λ g. refl) (compare_all_with l bytes (length v) (length before)) (all_refuses l bytes (length v) (length before))
      (all_gives l bytes (length v) (length before)) grouping_made

-- within document 01's limits
pub all_document_promise : (bytes v before w after : List ℕ) (answer : Outcome Grouped)
    → ComparedAll (compare_all bytes (length v) (length before)) v before w after answer → AllPromise limits bytes v before w after answer
all_document_promise bytes v before w after answer = all_promise limits bytes v before w after answer (own_limits limits)

-- ---- the room that the limits name
module _ {l : Limits} {bytes v before w after : List ℕ} {answer : Outcome Grouped} (a : AllPromise l bytes v before w after answer) where
  -- no answer is longer
  pub all_within : (x : Grouped) → answer ≡ reported x → x.length ≤ grouping_room l
  all_within x e =
      let m = a.made x e in
      let g = m.gives in
      omega (
        arith,
        m.long,
        ap grouping_length g.given,
        grouping_room_lem l g.sheet (written_admissible bytes g.sheet g.read) g.no_limit,
      )

  -- and with that room 22 is not given
  pub all_room_enough : {place : ℕ} → grouping_room l ≤ length before → answer ≡ refusal short_answer place → ⊥
  all_room_enough {place} room e =
      never_short_answer (λ k x. omega (arith, (sheet_number_low bytes short_answer k ((sheet_reads bytes).is_refused short_answer k x)).within))
      (λ sheet c none. omega (arith, room, grouping_room_lem l sheet (written_admissible bytes sheet c) none)) (a.refused short_answer place e).refuses
