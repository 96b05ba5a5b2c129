-- A call that works out a set and writes an answer, whatever it makes of the set: each refusal is given under its condition and no
-- other, in document 01's order, and otherwise the answer.
use Rattle.std.specs.Prelude.{◌≡◌, refl, ◌↔◌, Bool, true, false, cond, List, ℕ, ◌≤◌, length, ltb}
use Rattle.std.proofs.Common.{sym, ap, ◌∙◌, subst, ltb-true, ltb-false, lt-ltb, le-ltb}
use Rattle.move_laws.specs.TestLaws.{true_false}
use Rattle.comparison.specs.Refusals.{large_set, short_answer, short_work}
use Rattle.move_laws.specs.Sheet.{Configuration, Sheet}
use Rattle.comparison.specs.Reading.{Reading, got, refused}
use Rattle.comparison.specs.Sound.{ReadsAs}
use Rattle.comparison.specs.CallLimits.{Limits, work_length}
use Rattle.comparison.specs.Set.{explored, fits}
use Rattle.comparison.specs.Outcome.{Outcome, reported, refusal}
use Rattle.comparison.specs.Frame.{with_room, with_set, with_work, with_sheet}
use Rattle.comparison.specs.Promise.{PassesLimit, RefusesBy, by_sheet, short_work_lem, large_set_lem, short_answer_lem, GivesBy}
use Rattle.comparison_laws.specs.SetLaws.{fits_exactly, fits_unpassed}
use Rattle.comparison_laws.specs.RoomLaws.{room_short, room_given}

-- an outcome under its condition
pub data Decides {A : Type 0} (Refuses : ℕ → ℕ → Type 0) (Gives : A → Type 0) : Outcome A → Type 0 where
  gives_report : {a : A} → Gives a → Decides Refuses Gives (reported a)
  gives_refusal : {number place : ℕ} → Refuses number place → Decides Refuses Gives (refusal number place)

-- `size` is the length of the bytes that are read; `make` makes the answer of a sheet and its set
module _ {A : Type 0} (Is : Sheet → Type 0) (Not : ℕ → ℕ → Type 0) (size : ℕ) (m : Reading Sheet)
    (reads : ReadsAs (λ sheet end. Is sheet × (end ≡ size)) Not m) (l : Limits) (seeds : Sheet → List Configuration)
    (make : Sheet → List Configuration → A) (bytes : A → List ℕ) (work answer : ℕ) where
  abbrev made : Sheet → A
  made sheet = make sheet (explored sheet l (seeds sheet))

  abbrev needed : Sheet → ℕ
  needed sheet = length (bytes (made sheet))

  -- what is done with a sheet that was read
  abbrev on_set : Sheet → Outcome A
  on_set sheet = with_set l sheet (seeds sheet) (λ set. with_room bytes answer (make sheet set))

  -- the whole call
  abbrev pub framed : Outcome A
  framed = with_sheet m (λ sheet. with_work work (on_set sheet))

  abbrev Refused : ℕ → ℕ → Type 0
  Refused = RefusesBy Is Not l seeds needed work answer

  abbrev Given : A → Type 0
  Given = GivesBy Is l seeds made (λ a. length (bytes a)) work answer

  -- every call gives an answer, or a refusal under its condition
  pub frame_decides : Decides Refused Given framed
  frame_decides = reading m refl
    where
      room : (sheet : Sheet) → Is sheet → work_length ≤ work → (PassesLimit sheet l (seeds sheet) → ⊥) → (b : Bool) → ltb answer (needed sheet) ≡ b
          → Decides Refused Given (cond b (refusal short_answer (needed sheet)) (reported (made sheet)))
      room sheet e w n true h = gives_refusal (short_answer_lem sheet e w n (ltb-true answer (needed sheet) h))
      room sheet e w n false h =
          gives_report (record {
            sheet = sheet;
            read = e;
            work_room = w;
            no_limit = n;
            answer_room = ltb-false answer (needed sheet) h;
            given = refl;
          })

      set : (sheet : Sheet) → Is sheet → work_length ≤ work → (b : Bool) → fits sheet l (explored sheet l (seeds sheet)) ≡ b
          → Decides Refused Given (elim b [ true ↦ with_room bytes answer (made sheet) | false ↦ refusal large_set 0 ])
      set sheet e w true h =
          room sheet e w (λ x. true_false {A = ⊥} (fits sheet l (explored sheet l (seeds sheet))) h ((fits_exactly sheet l (seeds sheet)).1 x))
          (ltb answer (needed sheet)) refl
      set sheet e w false h = gives_refusal (large_set_lem sheet e w ((fits_exactly sheet l (seeds sheet)).0 h))

      slice : (sheet : Sheet) → Is sheet → (b : Bool) → ltb work work_length ≡ b
          → Decides Refused Given (elim b [ true ↦ refusal short_work 0 | false ↦ on_set sheet ])
      slice sheet e true h = gives_refusal (short_work_lem sheet e (ltb-true work work_length h))
      slice sheet e false h = set sheet e (ltb-false work work_length h) (fits sheet l (explored sheet l (seeds sheet))) refl

      reading : (r : Reading Sheet) → m ≡ r → Decides Refused Given (with_sheet r (λ sheet. with_work work (on_set sheet)))
      reading (refused number place) e = gives_refusal (by_sheet (reads.sound.refused_is number place e))
      reading (got sheet end) e = slice sheet (reads.sound.got_is sheet end e).0 (ltb work work_length) refl

  -- ---- the conditions fix what is given
  read_call : (sheet : Sheet) → Is sheet → framed ≡ with_work work (on_set sheet)
  read_call sheet e = ap (λ (r : Reading Sheet). with_sheet r (λ sheet. with_work work (on_set sheet))) (reads.is_got sheet size (e, refl))

  work_call : (sheet : Sheet) → Is sheet → {b : Bool} → ltb work work_length ≡ b
      → framed ≡ elim b as (λ _. Outcome A) [ true ↦ refusal short_work 0 | false ↦ on_set sheet ]
  work_call sheet e h =
      read_call sheet e ∙ ap (λ (b : Bool). elim b as (λ _. Outcome A) [ true ↦ refusal short_work 0 | false ↦ on_set sheet ]) h

  set_call : (sheet : Sheet) → Is sheet → work_length ≤ work → {b : Bool} → fits sheet l (explored sheet l (seeds sheet)) ≡ b
      → framed ≡ elim b as (λ _. Outcome A) [ true ↦ with_room bytes answer (made sheet) | false ↦ refusal large_set 0 ]
  set_call sheet e w h =
      work_call sheet e (le-ltb work work_length w)
      ∙ ap (λ (b : Bool). elim b as (λ _. Outcome A) [ true ↦ with_room bytes answer (made sheet) | false ↦ refusal large_set 0 ]) h

  refuses_call : {number place : ℕ} → Refused number place → framed ≡ refusal number place
  refuses_call {number} {place} (by_sheet e) =
      ap (λ (r : Reading Sheet). with_sheet r (λ sheet. with_work work (on_set sheet))) (reads.is_refused number place e)
  refuses_call (short_work_lem sheet e w) = work_call sheet e (lt-ltb work work_length w)
  refuses_call (large_set_lem sheet e w x) = set_call sheet e w ((fits_exactly sheet l (seeds sheet)).1 x)
  refuses_call (short_answer_lem sheet e w n h) = set_call sheet e w (fits_unpassed sheet l (seeds sheet) n) ∙ room_short bytes answer (made sheet) h

  gives_call : {a : A} → Given a → framed ≡ reported a
  gives_call g =
      set_call g.sheet g.read g.work_room (fits_unpassed g.sheet l (seeds g.sheet) g.no_limit)
      ∙ room_given bytes answer (made g.sheet) (subst (λ (a : A). length (bytes a) ≤ answer) g.given g.answer_room)
      ∙ ap reported (sym g.given)

  refusal_given : {number place : ℕ} → Decides Refused Given (refusal number place) → Refused number place
  refusal_given (gives_refusal x) = x

  report_given : {a : A} → Decides Refused Given (reported a) → Given a
  report_given (gives_report x) = x

  -- Each refusal occurs under its condition and under no other, and an answer under none.
  pub frame_refuses : (number place : ℕ) → (framed ≡ refusal number place) ↔ RefusesBy Is Not l seeds needed work answer number place
  frame_refuses number place = ((λ e. refusal_given (subst (Decides Refused Given) e frame_decides)), refuses_call)

  pub frame_gives : (a : A) → (framed ≡ reported a) ↔ GivesBy Is l seeds made (λ a. length (bytes a)) work answer a
  frame_gives a = ((λ e. report_given (subst (Decides Refused Given) e frame_decides)), gives_call)
