-- The text of an answer that begins with a report's bytes is the report's.
use Rattle.std.specs.Prelude.{◌≡◌, refl, Bool, ℕ, ◌+◌, ◌≤◌, ◌<◌, length, take}
use Rattle.std.proofs.Math.Path.{sym, ap}
use Rattle.std.proofs.Common.{ap₂, ◌∙◌, arith, take-append-drop, length-take-le, drop-drop}
use mathlib.Core.List.{List, [], ◌∷◌, ◌++◌, append_assoc, Memᴰ}
use Rattle.std.proofs.Math.ListN.{get_or, drop}
use Rattle.std.proofs.Math.Seq.{drop-append_seam}
use Rattle.text.specs.Lists.{concat_map}
use Rattle.text.specs.ListPlaces.{get_d_in}
use Rattle.text.specs.Lines.{line}
use Rattle.report_fields.specs.Sheet.{Configuration}
use Rattle.report_fields.specs.Classes.{place_of, class_of}
use Rattle.report_fields.specs.Trail.{TrailStep, left, none}
use Rattle.report_fields.specs.SheetBytes.{word_bytes}
use Rattle.report_fields.specs.Report.{Verdict, SAME, DIFF, Report, member_bytes, step_bytes, report_bytes, report_length}
use Rattle.report_fields.specs.Outcome.{reported}
use Rattle.report_fields.specs.Print.{verdict_word, configurations_word, trail_word, member_line, member_lines, step_line, printed}
use Rattle.answer_laws.specs.Fitting.{Fitting}
use Rattle.answer_laws.specs.MemberPlaces.{place_of_member}
use Rattle.text.specs.Slices.{Stored}
use Rattle.text.specs.StoredText.{stored_length}
use Rattle.report_text.specs.Runs.{run_whole}
use Rattle.report_fields.specs.AnswerFields.{count_in}
use Rattle.report_text.specs.AnswerText.{word_of, member_text, member_end, members_text, members_end, step_text, step_end, steps_text, trail_place, answer_text}
use Rattle.report_fields.specs.TextLaws.{stored_front}
use Rattle.report_text.specs.AnswerLaws.{word_read, word_rest, member_read, member_text_lem, step_read}
use Rattle.report_text.specs.ReportText.{is_same, ReportWritten}

-- what a list of members or of steps is to have beyond its end, which is never read
abbrev no_member : Configuration
no_member = record { store = 0; threads = [] }

abbrev no_step : TrailStep
no_step = record { side = left; label = 0; target = no_member; reply = none }

same_word : (v : Verdict) → word_of (is_same v) ≡ verdict_word v
same_word SAME = refl
same_word DIFF = refl

regroup : (a b c d e : List ℕ) → (((a ++ b) ++ c) ++ d) ++ e ≡ a ++ (b ++ (c ++ (d ++ e)))
regroup a b c d e = simp append_assoc

five_same : {a b c d e a' b' c' d' e' : List ℕ} → a ≡ a' → b ≡ b' → c ≡ c' → d ≡ d' → e ≡ e'
    → a ++ b ++ c ++ d ++ e ≡ a' ++ b' ++ c' ++ d' ++ e'
five_same p q r s t = cc

-- ---- the text of an answer that begins with a report's bytes
module _ (q : Report) (fit : Fitting q) (answer : List ℕ) (begins : take (report_length q) answer ≡ report_bytes q) where
  -- the report's members, its steps, and the class of a member
  abbrev set : List Configuration
  set = q.members

  abbrev steps : List TrailStep
  steps = q.steps

  abbrev class : Configuration → ℕ
  class p = class_of q.members q.classes p

  -- the bytes and the line of a member
  member_bytes_lem : Configuration → List ℕ
  member_bytes_lem p = member_bytes p (class p)

  abbrev member_line_lem : Configuration → List ℕ
  member_line_lem p = member_line (place_of set p) p (class p)

  -- the steps, and what stands after the report
  steps_bytes : List ℕ
  steps_bytes = concat_map (step_bytes set) steps ++ drop (report_length q) answer

  -- the members, and what stands after them
  members_bytes_lem : List ℕ
  members_bytes_lem = concat_map member_bytes_lem set ++ (word_bytes (length steps) ++ steps_bytes)

  at_start : drop 0 answer ≡ word_bytes (length set) ++ members_bytes_lem
  unfolding member_bytes_lem steps_bytes members_bytes_lem
  at_start =
      sym (take-append-drop (report_length q) answer)
      ∙ ap (λ (l : List ℕ). l ++ drop (report_length q) answer) begins
      ∙ regroup (word_bytes (length set)) (concat_map member_bytes_lem set) (word_bytes (length steps)) (concat_map (step_bytes set) steps)
      (drop (report_length q) answer)

  at_members : drop 2 answer ≡ concat_map member_bytes_lem set ++ (word_bytes (length steps) ++ steps_bytes)
  unfolding members_bytes_lem
  at_members = word_rest answer 0 (length set) members_bytes_lem at_start

  count_is : count_in answer 0 ≡ length set
  count_is =
      let few = fit.listed.few in
      omega (arith, few, word_read answer 0 (length set) members_bytes_lem at_start (omega (arith, few)))

  each_member : (i at : ℕ) (more : List ℕ) → i < length set → drop at answer ≡ member_bytes_lem (get_or set i no_member) ++ more
      → (member_text answer i at ≡ member_line_lem (get_or set i no_member))
      × (member_end answer at ≡ at + length (member_bytes_lem (get_or set i no_member)))
  unfolding member_bytes_lem
  each_member i at more l h =
      let p : Configuration = get_or set i no_member in
      let inn : Memᴰ p set = get_d_in set i no_member l in
      let place : place_of set p ≡ i = place_of_member set fit.listed.ordered no_member i l in
      let small : class p < 65536 = fit.listed.classes (place_of set p) (omega arith) in
      let r = member_read answer at p (class p) more h (fit.listed.stores p inn) (fit.listed.threads p inn) small in
      (member_text_lem answer at i p (class p) r ∙ ap (λ (k : ℕ). member_line k p (class p)) (sym place), r.end)

  members_are : (members_text answer (length set) ≡ member_lines set q.classes)
      × (members_end answer (length set) ≡ 2 + length (concat_map member_bytes_lem set))
  members_are =
      run_whole member_bytes_lem member_line_lem answer (member_text answer) (member_end answer) 2 set no_member
      (word_bytes (length steps) ++ steps_bytes) at_members each_member

  at_trail : drop (trail_place answer) answer ≡ word_bytes (length steps) ++ steps_bytes
  at_trail =
      let all : List ℕ = concat_map member_bytes_lem set in
      ap (λ (k : ℕ). drop k answer) (ap (members_end answer) count_is ∙ members_are.1)
      ∙ sym (drop-drop (length all) 2 answer)
      ∙ ap (drop (length all)) at_members
      ∙ drop-append_seam all (word_bytes (length steps) ++ steps_bytes)

  steps_count_is : count_in answer (trail_place answer) ≡ length steps
  steps_count_is =
      let few = fit.few_steps in
      omega (arith, few, word_read answer (trail_place answer) (length steps) steps_bytes at_trail (omega (arith, few)))

  at_steps : drop (trail_place answer + 2) answer ≡ concat_map (step_bytes set) steps ++ drop (report_length q) answer
  unfolding steps_bytes
  at_steps = word_rest answer (trail_place answer) (length steps) steps_bytes at_trail

  each_step : (i at : ℕ) (more : List ℕ) → i < length steps → drop at answer ≡ step_bytes set (get_or steps i no_step) ++ more
      → (step_text answer at ≡ step_line set (get_or steps i no_step)) × (step_end at ≡ at + length (step_bytes set (get_or steps i no_step)))
  each_step i at more l h =
      let t : TrailStep = get_or steps i no_step in
      step_read answer at set t more h (omega (arith, fit.listed.few)) (fit.steps t (get_d_in steps i no_step l)).label

  steps_are : steps_text answer (trail_place answer + 2) (length steps) ≡ concat_map (step_line set) steps
  steps_are =
      (run_whole (step_bytes set) (step_line set) answer (λ _ from. step_text answer from) step_end (trail_place answer + 2) steps no_step
      (drop (report_length q) answer) at_steps each_step).0

  -- the text of the answer is the report's
  pub answer_text_lem : answer_text (is_same q.verdict) q.round answer ≡ printed (reported q)
  answer_text_lem =
      five_same (ap (λ (w : List ℕ). line w (q.round ∷ [])) (same_word q.verdict))
      (ap (λ (k : ℕ). line configurations_word (k ∷ [])) count_is)
      (ap (members_text answer) count_is ∙ members_are.0)
      (ap (λ (k : ℕ). line trail_word (k ∷ [])) steps_count_is)
      (ap (steps_text answer (trail_place answer + 2)) steps_count_is ∙ steps_are)

-- the text by its parts: the count of members, where they end, and the count of steps
pub text_parts : (same : Bool) (round : ℕ) (s : List ℕ) (n k from : ℕ) → n ≡ count_in s 0 → from ≡ members_end s n → k ≡ count_in s from
    → line (word_of same) (round ∷ [])
    ++ line configurations_word (n ∷ [])
    ++ members_text s n
    ++ line trail_word (k ∷ [])
    ++ steps_text s (from + 2) k
    ≡ answer_text same round s
text_parts same round s n k from n-is from_is k-is =
    let place : from ≡ trail_place s = from_is ∙ ap (members_end s) n-is in
    let steps : k ≡ count_in s (trail_place s) = k-is ∙ ap (count_in s) place in
    let head : List ℕ = line (word_of same) (round ∷ []) in
    five_same {a = head} {a' = head} refl (ap (λ (i : ℕ). line configurations_word (i ∷ [])) n-is) (ap (members_text s) n-is)
    (ap (λ (i : ℕ). line trail_word (i ∷ [])) steps)
    (ap₂ (λ (f i : ℕ). steps_text s (f + 2) i) place steps)

-- A text stored from the slice's start is written.
pub report_written : (same : Bool) (round : ℕ) (answer : List ℕ) {out after : List ℕ} {next : ℕ}
    → Stored out 0 (answer_text same round answer) after next → next ≤ length out → ReportWritten same round answer out after next
report_written same round answer {out} {after} {next} s h =
    let text : List ℕ = answer_text same round answer in
    let front : after ≡ text ++ drop (length text) out = stored_front s h in
    let long : next ≡ length text = omega (arith, s.place) in
    let fits : next ≤ length after = omega (arith, stored_length s) in
    record {
      count = long;
      slice = front;
      report = λ q fit same_is round_is begins.
          let e : text ≡ printed (reported q) =
          ap₂ (λ (b : Bool) (k : ℕ). answer_text b k answer) same_is round_is ∙ answer_text_lem q fit answer begins in
          (long ∙ ap length e, front ∙ ap (λ (l : List ℕ). l ++ drop (length l) out) e);
      inside = fits;
      counted = sym (length-take-le next after fits);
    }
