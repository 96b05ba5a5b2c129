-- The call for the labels of an ask keeps its promise, and the promise fixes what the call returns and what it leaves in the slice.
use Rattle.std.specs.Prelude.{◌≡◌, Bool, cond, not, ℕ, ◌^◌, ◌≤◌, ◌<◌, length, take, drop}
use Rattle.std.proofs.Math.Path.{refl, ap}
use Rattle.std.proofs.Common.{sym, ap₂, ◌∙◌, subst, arith, take-append-drop}
use Rattle.std.proofs.Math.Bool.{true, false}
use mathlib.Core.List.{List, ◌++◌, Memᴰ}
use Rattle.std.proofs.Math.Seq.{take-append_seam, drop-append_seam}
use Rattle.std.proofs.Math.Dec.{ltb}
use borrow.Author.Tests.{ltb-true, ltb-false, lt-ltb, le-ltb}
use Rattle.comparison_laws.specs.Lists.{select, any}
use Rattle.comparison_laws.specs.AscendingLaws.{number_order, ascends_unique}
use Rattle.comparison_laws.specs.Stores.{closure, strictly_below}
use Rattle.comparison_laws.specs.Refusals.{absent_fact, short_answer}
use Rattle.comparison_laws.specs.Sheet.{Sheet}
use Rattle.comparison_laws.specs.SheetBytes.{SheetIs}
use Rattle.comparison_laws.specs.Reading.{Reading, got, refused, read_sheet}
use Rattle.comparison_laws.specs.SheetRead.{sheet_reads}
use Rattle.comparison_laws.specs.Moves.{count_up, labels}
use Rattle.comparison_laws.specs.LabelLaws.{label_constraint, label_makes_true, label_minimal, label_below, labels_ascend}
use Rattle.search_laws.specs.OrderedSearch.{label_search}
use Rattle.search_laws.specs.SearchLaws.{search_tried}
use Rattle.comparison_laws.specs.Outcome.{reported, refusal, Outcome}
use Rattle.comparison_laws.specs.Frame.{with_room, with_sheet}
use Rattle.comparison_laws.specs.RoomLaws.{room_short, room_given}
use Rattle.comparison_laws.specs.FrameTheorem.{Decides, gives_report, gives_refusal}
use Rattle.asked_labels.specs.AskedLabels.{AskedLabels, asked_on, Asks, with_facts, ask_labels, labels_after, labels_returned}
use Rattle.asked_labels.specs.AskPromise.{IsLabel, FaithfulLabels, RefusesAsk, by_sheet, by_store, by_asked, by_room, AskPromise}
use Rattle.asked_labels.specs.declared.LabelsFound.{LabelsFound}

-- ---- the labels of a sheet
module _ (sheet : Sheet) (d c : ℕ) where
  listed_label : (a : ℕ) → Memᴰ a (labels sheet d c) → IsLabel sheet d c a
  listed_label a m =
      record {
        constraint = label_constraint sheet d c m;
        makes_true_lem = label_makes_true sheet d c m;
        minimal = label_minimal sheet d c m;
      }

  -- a label inside a is a, as a is minimal
  label_listed : (a : ℕ) → IsLabel sheet d c a → Memᴰ a (labels sheet d c)
  label_listed a x =
      let b = label_below sheet d c a x.constraint x.makes_true_lem in
      subst (λ (n : ℕ). Memᴰ n (labels sheet d c))
      (x.minimal b.0 (label_constraint sheet d c b.1) (label_makes_true sheet d c b.1) b.2) b.1

  -- The labels of the definition and the number of sets that its search tries are what the promise says.
  pub labels_faithful : FaithfulLabels sheet d c (labels sheet d c) (label_search sheet d c).tried
  labels_faithful =
      record {
        labels = λ a. (listed_label a, label_listed a);
        ascending = labels_ascend sheet d c;
        number = search_tried sheet d c;
      }

  -- what the promise says fixes the labels
  faithful_listed : {l m : List ℕ} {s t : ℕ} → FaithfulLabels sheet d c l s → FaithfulLabels sheet d c m t → l ≡ m
  faithful_listed {l} {m} x y =
      ascends_unique number_order l m x.ascending y.ascending
      (λ a i. (y.labels a).1 ((x.labels a).0 i)) (λ a i. (x.labels a).1 ((y.labels a).0 i))

  -- and with them the number
  faithful_tried : {l m : List ℕ} {s t : ℕ} → FaithfulLabels sheet d c l s → FaithfulLabels sheet d c m t → s ≡ t
  faithful_tried x y =
      x.number
      ∙ ap (λ (l : List ℕ). length (select (λ s. not (any (λ b. strictly_below b s) l)) (count_up 0 (2 ^ sheet.facts)))) (faithful_listed x y)
      ∙ sym y.number

-- what is said of the labels of an ask, both sets closed
asked_faithful : (sheet : Sheet) (store asked : ℕ)
    → FaithfulLabels sheet (closure sheet.rules store) (closure sheet.rules asked) (asked_on sheet store asked).listed (asked_on sheet store asked).tried
unfolding asked_on
asked_faithful sheet store asked = labels_faithful sheet (closure sheet.rules store) (closure sheet.rules asked)

-- ---- when the call refuses, and when it does not
module _ (bytes : List ℕ) (store asked room : ℕ) where
  -- what goes with labels that are given
  record Given (a : AskedLabels) : Type 0 where
    sheet : Sheet
    is : SheetIs bytes sheet
    facts : (store < 2 ^ sheet.facts) × (asked < 2 ^ sheet.facts)
    fits : length a.listed ≤ room
    given : a ≡ asked_on sheet store asked

  abbrev listing : AskedLabels → List ℕ
  listing a = a.listed

  -- the two sets tested, and the room
  abbrev on_asked : Sheet → Asks
  on_asked sheet = with_facts sheet.facts 1 asked (with_room listing room (asked_on sheet store asked))

  abbrev on_store : Sheet → Asks
  on_store sheet = with_facts sheet.facts 0 store (on_asked sheet)

  abbrev Decided : Asks → Type 0
  Decided = Decides (RefusesAsk bytes store asked room) Given

  ask_decides : Decided (ask_labels bytes store asked room)
  unfolding ask_labels
  ask_decides = reading (read_sheet bytes) refl
    where
      room_decides : (sheet : Sheet) → SheetIs bytes sheet → store < 2 ^ sheet.facts → asked < 2 ^ sheet.facts
          → (b : Bool) → ltb room (length (asked_on sheet store asked).listed) ≡ b
          → Decided (cond b (refusal short_answer (length (asked_on sheet store asked).listed)) (reported (asked_on sheet store asked)))
      room_decides sheet is s q true h = gives_refusal (by_room sheet is s q (ltb-true room (length (asked_on sheet store asked).listed) h))
      room_decides sheet is s q false h =
          gives_report (record {
            sheet = sheet;
            is = is;
            facts = (s, q);
            fits = ltb-false room (length (asked_on sheet store asked).listed) h;
            given = refl;
          })

      asked_decides : (sheet : Sheet) → SheetIs bytes sheet → store < 2 ^ sheet.facts → (b : Bool) → ltb asked (2 ^ sheet.facts) ≡ b
          → Decided (elim b [ true ↦ with_room listing room (asked_on sheet store asked) | false ↦ refusal absent_fact 1 ])
      asked_decides sheet is s true h =
          room_decides sheet is s (ltb-true asked (2 ^ sheet.facts) h) (ltb room (length (asked_on sheet store asked).listed)) refl
      asked_decides sheet is s false h = gives_refusal (by_asked sheet is s (ltb-false asked (2 ^ sheet.facts) h))

      store_decides : (sheet : Sheet) → SheetIs bytes sheet → (b : Bool) → ltb store (2 ^ sheet.facts) ≡ b
          → Decided (elim b [ true ↦ on_asked sheet | false ↦ refusal absent_fact 0 ])
      store_decides sheet is true h = asked_decides sheet is (ltb-true store (2 ^ sheet.facts) h) (ltb asked (2 ^ sheet.facts)) refl
      store_decides sheet is false h = gives_refusal (by_store sheet is (ltb-false store (2 ^ sheet.facts) h))

      reading : (r : Reading Sheet) → read_sheet bytes ≡ r → Decided (with_sheet r on_store)
      reading (refused number place) e = gives_refusal (by_sheet ((sheet_reads bytes).sound.refused_is number place e))
      reading (got sheet end) e = store_decides sheet ((sheet_reads bytes).sound.got_is sheet end e).0 (ltb store (2 ^ sheet.facts)) refl

  -- ---- the conditions fix what is given
  store_call : (sheet : Sheet) → SheetIs bytes sheet → {b : Bool} → ltb store (2 ^ sheet.facts) ≡ b
      → ask_labels bytes store asked room ≡ elim b as (λ _. Asks) [ true ↦ on_asked sheet | false ↦ refusal absent_fact 0 ]
  unfolding ask_labels
  store_call sheet is h =
      ap (λ (r : Reading Sheet). with_sheet r on_store) ((sheet_reads bytes).is_got sheet (length bytes) (is, refl))
      ∙ ap (λ (b : Bool). elim b as (λ _. Asks) [ true ↦ on_asked sheet | false ↦ refusal absent_fact 0 ]) h

  asked_call : (sheet : Sheet) → SheetIs bytes sheet → store < 2 ^ sheet.facts → {b : Bool} → ltb asked (2 ^ sheet.facts) ≡ b
      → ask_labels bytes store asked room
      ≡ elim b as (λ _. Asks) [ true ↦ with_room listing room (asked_on sheet store asked) | false ↦ refusal absent_fact 1 ]
  asked_call sheet is s h =
      store_call sheet is (lt-ltb store (2 ^ sheet.facts) s)
      ∙ ap (λ (b : Bool). elim b as (λ _. Asks) [ true ↦ with_room listing room (asked_on sheet store asked) | false ↦ refusal absent_fact 1 ]) h

  refuses_call : {number place : ℕ} → RefusesAsk bytes store asked room number place → ask_labels bytes store asked room ≡ refusal number place
  unfolding ask_labels
  refuses_call {number} {place} (by_sheet e) =
      ap (λ (r : Reading Sheet). with_sheet r on_store) ((sheet_reads bytes).is_refused number place e)
  refuses_call (by_store sheet is s) = store_call sheet is (le-ltb store (2 ^ sheet.facts) s)
  refuses_call (by_asked sheet is s q) = asked_call sheet is s (le-ltb asked (2 ^ sheet.facts) q)
  refuses_call (by_room sheet is s q h) =
      asked_call sheet is s (lt-ltb asked (2 ^ sheet.facts) q) ∙ room_short listing room (asked_on sheet store asked) h

  gives_call : (sheet : Sheet) → SheetIs bytes sheet → store < 2 ^ sheet.facts → asked < 2 ^ sheet.facts
      → length (asked_on sheet store asked).listed ≤ room → ask_labels bytes store asked room ≡ reported (asked_on sheet store asked)
  gives_call sheet is s q h =
      asked_call sheet is s (lt-ltb asked (2 ^ sheet.facts) q) ∙ room_given listing room (asked_on sheet store asked) h

-- ---- the promise
-- The call keeps its promise.
pub ask_kept : (bytes : List ℕ) (store asked : ℕ) (before : List ℕ)
    → let o = ask_labels bytes store asked (length before) in AskPromise bytes store asked before (labels_after o before) (labels_returned o)
ask_kept bytes store asked before = go (ask_decides bytes store asked (length before))
  where
    go : {o : Asks} → Decides (RefusesAsk bytes store asked (length before)) (Given bytes store asked (length before)) o
        → AskPromise bytes store asked before (labels_after o before) (labels_returned o)
    go (gives_refusal x) = (x, refl)
    go (gives_report {a = a} g) =
        let front : take (length a.listed) (a.listed ++ drop (length a.listed) before) ≡ a.listed =
        take-append_seam a.listed (drop (length a.listed) before) in
        record {
          sheet = g.sheet;
          is = g.is;
          facts = g.facts;
          fits = g.fits;
          counted = ap length front;
          faithful = subst (λ (l : List ℕ). FaithfulLabels g.sheet (closure g.sheet.rules store) (closure g.sheet.rules asked) l a.tried)
              (sym front)
              (subst (λ (b : AskedLabels). FaithfulLabels g.sheet (closure g.sheet.rules store) (closure g.sheet.rules asked) b.listed b.tried)
              (sym g.given) (asked_faithful g.sheet store asked));
          behind = drop-append_seam a.listed (drop (length a.listed) before);
        }

-- The promise fixes what the call returns and what it leaves in the slice.
pub ask_alone : (bytes : List ℕ) (store asked : ℕ) (before after : List ℕ) (answer : Outcome LabelsFound)
    → AskPromise bytes store asked before after answer
    → let o = ask_labels bytes store asked (length before) in (answer ≡ labels_returned o) × (after ≡ labels_after o before)
ask_alone bytes store asked before after (refusal number place) (x, same) =
    let e = refuses_call bytes store asked (length before) x in
    (ap labels_returned (sym e), same ∙ ap (λ (o : Asks). labels_after o before) (sym e))
ask_alone bytes store asked before after (reported x) p =
    let a = asked_on p.sheet store asked in
    let listed : take x.count after ≡ a.listed =
    faithful_listed p.sheet (closure p.sheet.rules store) (closure p.sheet.rules asked) p.faithful (asked_faithful p.sheet store asked) in
    let tried : x.tried ≡ a.tried =
    faithful_tried p.sheet (closure p.sheet.rules store) (closure p.sheet.rules asked) p.faithful (asked_faithful p.sheet store asked) in
    let count : x.count ≡ length a.listed = sym p.counted ∙ ap length listed in
    let e : ask_labels bytes store asked (length before) ≡ reported a =
    gives_call bytes store asked (length before) p.sheet p.is p.facts.0 p.facts.1 (omega (arith, count, p.fits)) in
    let returned : reported x ≡ labels_returned (reported a) = ap₂ (λ (n k : ℕ). reported (record { count = n; tried = k })) count tried in
    let left : after ≡ labels_after (reported a) before =
    sym (take-append-drop x.count after)
    ∙ ap₂ (λ (l r : List ℕ). l ++ r) listed (p.behind ∙ ap (λ (n : ℕ). drop n before) count) in
    (returned ∙ ap labels_returned (sym e), left ∙ ap (λ (o : Asks). labels_after o before) (sym e))
