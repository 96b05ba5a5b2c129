-- Document 02, card 1, sentence by sentence: what follows for a caller who has the grouping, and for one who has the comparing call's
-- answer beside it. Proved of any two calls that keep their promises, each within limits and with slices of its own.
use Rattle.answers.specs.Outcome.{Outcome, refusal, reported}
use Rattle.std.specs.Prelude.{◌≡◌, refl, ◌↔◌, Bool, true, false, ℕ, ◌<◌, length, get_or}
use Rattle.std.proofs.Common.{sym, ap, ◌∙◌, arith, eqb-true, eq-eqb}
use Rattle.std.proofs.Math.Path.{subst}
use mathlib.Core.List.{List, [], Memᴰ}
use Rattle.std.proofs.lemmas.List.{length-map}
use Rattle.all_call.specs.TestLaws.{Tested, tested, passes, fails, true_false}
use Rattle.all_call.specs.ListPlaces.{get_d_in, get_d_image}
use Rattle.answers.specs.Refusals.{large_set}
use Rattle.answers.specs.Sheet.{Configuration, Sheet, start}
use Rattle.answers.specs.SheetBytes.{ChoiceIs}
use Rattle.answers.specs.SheetRead.{one_sheet, choice_reads}
use Rattle.call_theorem.specs.RefusalNumbers.{number_low}
use Rattle.answers.specs.Refinement.{Member, seed, target, added, Bisimilar}
use Rattle.answers.specs.CallLimits.{Limits, NoGreater}
use Rattle.answers.specs.Classes.{class_of, share}
use Rattle.answers.specs.Report as spec
use Rattle.answers.specs.Report.{Verdict, SAME, DIFF}
use Rattle.answers.specs.SheetTransitions.{transitions}
use Rattle.answers.specs.Promise.{PassesLimit, many_members, many_threads_lem, many_moves, starts_of, Faithful}
use Rattle.call_theorem.specs.RoomLaws.{by_large_set}
use Rattle.call_theorem.specs.Theorem.{both_hold, same_not_diff}
use Rattle.call_theorem.specs.LimitLaws.{passes_lower}
use Rattle.answers.specs.ReadBack.{read_back_lem}
use Rattle.answers.specs.declared.Reported.{Reported}
use Rattle.answers.specs.Call.{compare}
use Rattle.call_theorem.specs.Compared.{Compared}
use Rattle.call_theorem.specs.CallPromise.{verdict_read, report_read, CallPromise}
use Rattle.call_theorem.specs.CallPromiseLaws.{document_promise}
use Rattle.all_call.specs.ComparedAll.{ComparedAll}
use Rattle.all_theorem.specs.AllPromiseLaws.{all_document_promise}
use Rattle.all_starts.specs.Grouping.{Grouping, compare_all}
use Rattle.all_starts.specs.GroupingRead.{grouping_read}
use Rattle.all_starts.specs.GroupingPromise.{FaithfulAll, AllPromise, AsCompared}
use Rattle.all_starts.specs.declared.Grouped.{Grouped}

-- ---- the grouping alone
module _ (sheet : Sheet) (g : Grouping) (f : FaithfulAll sheet g) where
  -- each start has a class
  pub start_count_lem : length g.start_classes ≡ length sheet.starts
  start_count_lem = ap length f.starts ∙ length-map sheet.starts (class_of g.members g.classes)

  start_class : (i : ℕ) → i < length sheet.starts → get_or g.start_classes i 0 ≡ class_of g.members g.classes (start sheet i)
  start_class i l =
      ap (λ (s : List ℕ). get_or s i 0) f.starts
      ∙ get_d_image (class_of g.members g.classes) sheet.starts i (record { store = 0; threads = [] }) 0 l

  -- it is a member
  pub start_there : (i : ℕ) → i < length sheet.starts → Memᴰ (start sheet i) g.members
  start_there i l = (f.listed.set.whole (start sheet i)).1 (seed (get_d_in sheet.starts i (record { store = 0; threads = [] }) l))

  -- two starts share a class exactly when a saturated barbed bisimulation contains the two as a pair
  pub starts_share : (i j : ℕ) → i < length sheet.starts → j < length sheet.starts
      → (get_or g.start_classes i 0 ≡ get_or g.start_classes j 0) ↔ Bisimilar (transitions sheet) (start sheet i) (start sheet j)
  starts_share i j li lj =
      let c = f.listed.classes (start sheet i) (start sheet j) (start_there i li) (start_there j lj) in
      let ei = start_class i li in
      let ej = start_class j lj in (
        (λ e. c.0 (eq-eqb _ _ (sym ei ∙ e ∙ ej))),
        (λ b. ei ∙ eqb-true _ _ (c.1 b) ∙ sym ej),
      )

-- ---- a report alone: SAME exactly when such a bisimulation contains the two
module _ (sheet : Sheet) (p q : Configuration) (r : spec.Report) (f : Faithful sheet p q r) where
  shared : (share r.members r.classes p q ≡ true) ↔ Bisimilar (transitions sheet) p q
  shared =
      f.listed.classes p q ((f.listed.set.whole p).1 (seed (Memᴰ.head refl)))
      ((f.listed.set.whole q).1 (seed (Memᴰ.tail (Memᴰ.head refl))))

  pub same_bisimilar : (r.verdict ≡ SAME) ↔ Bisimilar (transitions sheet) p q
  same_bisimilar = ((λ e. from (tested (share r.members r.classes p q)) e), (λ b. to r.verdict refl b))
    where
      from : Tested (share r.members r.classes p q) → r.verdict ≡ SAME → Bisimilar (transitions sheet) p q
      from (passes t) e = shared.0 t
      from (fails t) e =
          absurd (same_not_diff (sym e ∙ f.diff.1 (λ b. true_false {A = ⊥} (share r.members r.classes p q) (shared.1 b) t)))

      to : (v : Verdict) → r.verdict ≡ v → Bisimilar (transitions sheet) p q → r.verdict ≡ SAME
      to SAME e b = e
      to DIFF e b = absurd (f.diff.0 e b)

verdict_same : (b : Bool) → (verdict_read b ≡ SAME) ↔ (b ≡ true)
verdict_same true = ((λ e. refl), (λ e. refl))
verdict_same false = ((λ e. absurd (same_not_diff (sym e))), (λ e. absurd (true_false {A = ⊥} true refl (sym e))))

-- ---- both calls on one sheet
module _ {l h : Limits} {bytes v before w after : List ℕ} {x : Grouped} {left right : ℕ} {v2 before2 w2 after2 : List ℕ} {answer : Outcome Reported}
    (a : AllPromise l bytes v before w after (reported x)) (b : CallPromise h bytes left right v2 before2 w2 after2 answer) where
  -- Where neither is refused: two starts share a class exactly when the comparing call on the two says SAME.
  pub as_compared : (y : Reported) → answer ≡ reported y → AsCompared x after left right y
  unfolding read_back_lem
  as_compared y e =
      let f = (a.made x refl).faithful in
      let k = (b.made y e).faithful in
      let one : k.0 ≡ f.0 = one_sheet bytes k.1.written f.1 in
      let c : ChoiceIs bytes left right f.0 = subst (ChoiceIs bytes left right) one k.1 in
      let r : Faithful f.0 (start f.0 left) (start f.0 right) (report_read y after2) =
      subst (λ (s : Sheet). Faithful s (start s left) (start s right) (report_read y after2)) one k.2 in
      let s = starts_share f.0 (grouping_read x after) f.2 left right c.left_there c.right_there in
      let t = same_bisimilar f.0 (start f.0 left) (start f.0 right) (report_read y after2) r in
      let u = verdict_same y.same in
      ((λ i. u.0 (t.1 (s.0 i))), (λ i. s.1 (t.0 (u.1 i))))

-- the two calls themselves, from their contracts
pub calls_as_compared : (bytes : List ℕ) (left right : ℕ) {v before w after : List ℕ} {x : Grouped} {v2 before2 w2 after2 : List ℕ} {y : Reported}
    → ComparedAll (compare_all bytes (length v) (length before)) v before w after (reported x)
    → Compared (compare bytes left right (length v2) (length before2)) v2 before2 w2 after2 (reported y) → AsCompared x after left right y
calls_as_compared bytes left right {v} {before} {w} {after} {x} {v2} {before2} {w2} {after2} {y} a b =
    as_compared (all_document_promise bytes v before w after (reported x) a) (document_promise bytes left right v2 before2 w2 after2 (reported y) b) y refl

-- ---- the larger set
module _ (sheet : Sheet) {few more : List Configuration} (part : (p : Configuration) → Memᴰ p few → Memᴰ p more) where
  member_wider : {p : Configuration} → Member (transitions sheet) few p → Member (transitions sheet) more p
  member_wider (seed m) = seed (part _ m)
  member_wider (target m k) = target (member_wider m) k
  member_wider (added m k j s) = added (member_wider m) k j s

  -- a limit that the set of some seeds passes, the set of more seeds passes
  pub passes_wider : {l : Limits} → PassesLimit sheet l few → PassesLimit sheet l more
  passes_wider (many_members x) =
      many_members (record { elements = x.elements; distinct = x.distinct; all = λ p m. member_wider (x.all p m); more = x.more })
  passes_wider (many_threads_lem p m t) = many_threads_lem p (member_wider m) t
  passes_wider (many_moves x) =
      many_moves (record {
        elements = x.elements;
        distinct = x.distinct;
        all = λ p m. (member_wider (x.all p m).0, (x.all p m).1);
        more = x.more;
      })

-- both chosen starts are among all starts
pair_part : {bytes : List ℕ} {left right : ℕ} {sheet : Sheet} → ChoiceIs bytes left right sheet
    → (p : Configuration) → Memᴰ p (starts_of sheet left right) → Memᴰ p sheet.starts
pair_part {left = left} {right} {sheet} c =
    both_hold (λ (p : Configuration). Memᴰ p sheet.starts) (there left c.left_there) (there right c.right_there)
  where
    there : (i : ℕ) → i < length sheet.starts → Memᴰ (start sheet i) sheet.starts
    there i l = get_d_in sheet.starts i (record { store = 0; threads = [] }) l

-- Where all starts together are not refused, no two of them give 21, within limits that are not lower.
pub no_large_pair : {l h : Limits} {bytes v before w after : List ℕ} {x : Grouped} {left right : ℕ} {v2 before2 w2 after2 : List ℕ} {answer : Outcome Reported} {place : ℕ}
    → NoGreater l h → AllPromise l bytes v before w after (reported x) → CallPromise h bytes left right v2 before2 w2 after2 answer
    → answer ≡ refusal large_set place → ⊥
no_large_pair {l} {bytes = bytes} {x = x} {left} {right} {place = place} le a b e =
    let large =
    by_large_set
    (λ k r. omega (arith, (number_low bytes left right large_set k ((choice_reads bytes left right).is_refused large_set k r)).within))
    (b.refused large_set place e).refuses in
    let sheet : Sheet = large.0 in
    let g = (a.made x refl).gives in
    g.no_limit (subst (λ (s : Sheet). PassesLimit s l s.starts) (one_sheet bytes large.1.written g.read)
    (passes_wider sheet (pair_part large.1) (passes_lower sheet (starts_of sheet left right) le large.2)))
