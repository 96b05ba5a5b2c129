-- One input within two limits. Where neither is passed the set is one list, so the report is one; what passes a limit passes every
-- lower one; and of the refusals only 21 goes by the limits, with 22 behind it.
use Rattle.std.specs.Prelude.{◌≡◌, refl, ◌↔◌, ◌⊎◌, false, List, ℕ, ◌≤◌, ◌<◌}
use Rattle.std.proofs.Common.{sym, ap, ◌∙◌, subst, inl, inr, arith}
use Rattle.move_laws.specs.Lists.{MoreThan}
use Rattle.move_laws.specs.AscendingLaws.{ascends_unique}
use Rattle.comparison.specs.Refusals.{large_set, short_answer}
use Rattle.move_laws.specs.Sheet.{Configuration, Sheet, start}
use Rattle.comparison.specs.SheetBytes.{ChoiceIs}
use Rattle.comparison.specs.SheetRead.{one_sheet}
use Rattle.move_laws.specs.OrderLaws.{configuration_order}
use Rattle.comparison.specs.CallLimits.{Limits, NoGreater, limits, desk_limits, work_length}
use Rattle.comparison.specs.Set.{over, explored}
use Rattle.comparison.specs.Report.{report_on}
use Rattle.comparison.specs.Outcome.{Outcome, reported, refusal}
use Rattle.comparison.specs.Promise.{PassesLimit, many_members, many_threads_lem, many_moves, report_for, starts_of, RefusesBy, by_sheet, short_work_lem, large_set_lem, short_answer_lem, GivesBy}
use Rattle.comparison_laws.specs.FrameTheorem.{Decides, gives_report, gives_refusal}
use Rattle.comparison_laws.specs.SetLaws.{explored_member, explored_complete, explored_ascends, fits_not_over, fits_unpassed}

-- limits are nowhere above themselves
pub own_limits : (l : Limits) → NoGreater l l
own_limits l = record { members = omega arith; threads = omega arith; moves = omega arith }

-- the desk's are nowhere above document 01's
pub desk_no_greater : NoGreater desk_limits limits
desk_no_greater = record { members = omega arith; threads = omega arith; moves = omega arith }

-- more than a number is more than any lower one
fewer : {A : Type 0} {P : A → Type 0} {n m : ℕ} → n ≤ m → MoreThan m P → MoreThan n P
fewer le x = record { elements = x.elements; distinct = x.distinct; all = x.all; more = omega (arith, le, x.more) }

module _ (sheet : Sheet) (seeds : List Configuration) where
  -- a set that passes a limit passes every lower one
  pub passes_lower : {l h : Limits} → NoGreater l h → PassesLimit sheet h seeds → PassesLimit sheet l seeds
  passes_lower le (many_members x) = many_members (fewer le.members x)
  passes_lower le (many_threads_lem p m t) = many_threads_lem p m (omega (arith, le.threads, t))
  passes_lower le (many_moves x) = many_moves (fewer le.moves x)

  none_higher : {l h : Limits} → NoGreater l h → (PassesLimit sheet l seeds → ⊥) → PassesLimit sheet h seeds → ⊥
  none_higher le n x = n (passes_lower le x)

  -- where a limit is not passed the list is whole
  whole_list : (l : Limits) → (PassesLimit sheet l seeds → ⊥) → over l (explored sheet l seeds) ≡ false
  whole_list l n = fits_not_over sheet l seeds (fits_unpassed sheet l seeds n)

  -- where neither limit is passed it is one list
  pub explored_same : (l h : Limits) → (PassesLimit sheet l seeds → ⊥) → (PassesLimit sheet h seeds → ⊥)
      → explored sheet l seeds ≡ explored sheet h seeds
  explored_same l h nl nh =
      ascends_unique configuration_order (explored sheet l seeds) (explored sheet h seeds)
      (explored_ascends sheet l seeds) (explored_ascends sheet h seeds)
      (λ p m. explored_complete sheet h seeds (whole_list h nh) p (explored_member sheet l seeds p m))
      (λ p m. explored_complete sheet l seeds (whole_list l nl) p (explored_member sheet h seeds p m))

-- and the report is one
pub report_same : (l h : Limits) (sheet : Sheet) (left right : ℕ) → (PassesLimit sheet l (starts_of sheet left right) → ⊥)
    → (PassesLimit sheet h (starts_of sheet left right) → ⊥) → report_for l sheet left right ≡ report_for h sheet left right
report_same l h sheet left right nl nh =
    ap (λ (set : List Configuration). report_on sheet set (start sheet left) (start sheet right))
    (explored_same sheet (starts_of sheet left right) l h nl nh)

-- ---- any call that works out a set and writes an answer, of which `made` is what it makes of a sheet within limits
-- What the lower and the higher give of one input: one answer, one refusal, or the lower gives 21.
pub data BesideBy {A : Type 0} (Is : Sheet → Type 0) (Not : ℕ → ℕ → Type 0) (seeds : Sheet → List Configuration) (made : Limits → Sheet → A) (size : A → ℕ)
    (l h : Limits) (work answer : ℕ) : Type 0 where
  answer_of_both : {a : A} → GivesBy Is l seeds (made l) size work answer a → GivesBy Is h seeds (made h) size work answer a
      → BesideBy Is Not seeds made size l h work answer
  refusal_of_both : {number place : ℕ} → RefusesBy Is Not l seeds (λ sheet. size (made l sheet)) work answer number place
      → RefusesBy Is Not h seeds (λ sheet. size (made h sheet)) work answer number place → BesideBy Is Not seeds made size l h work answer
  lower_large : (sheet : Sheet) → Is sheet → work_length ≤ work → PassesLimit sheet l (seeds sheet) → BesideBy Is Not seeds made size l h work answer

-- `one` says that it goes by one sheet, and `same` that what it makes goes by the set alone
module _ {A : Type 0} (Is : Sheet → Type 0) (Not : ℕ → ℕ → Type 0) (seeds : Sheet → List Configuration) (made : Limits → Sheet → A) (size : A → ℕ)
    (one : (x y : Sheet) → Is x → Is y → x ≡ y)
    (same : (l h : Limits) (sheet : Sheet) → (PassesLimit sheet l (seeds sheet) → ⊥) → (PassesLimit sheet h (seeds sheet) → ⊥) → made l sheet ≡ made h sheet)
    (l h : Limits) where
  abbrev Gives : Limits → ℕ → ℕ → A → Type 0
  Gives k = GivesBy Is k seeds (made k) size

  abbrev RefusesWith : Limits → ℕ → ℕ → ℕ → ℕ → Type 0
  RefusesWith k = RefusesBy Is Not k seeds (λ sheet. size (made k sheet))

  -- Both give an answer, with whatever slices: it is one answer.
  pub gives_same : {work answer work2 answer2 : ℕ} {a b : A} → Gives l work answer a → Gives h work2 answer2 b → a ≡ b
  gives_same x y =
      let e : x.sheet ≡ y.sheet = one x.sheet y.sheet x.read y.read in
      x.given
      ∙ same l h x.sheet x.no_limit (subst (λ (t : Sheet). PassesLimit t h (seeds t) → ⊥) (sym e) y.no_limit)
      ∙ ap (made h) e ∙ sym y.given

  module _ (le : NoGreater l h) where
    -- The lower gives an answer: so does the higher, where its slices are long enough.
    pub gives_higher : {work answer work2 answer2 : ℕ} {a : A} → Gives l work answer a → work_length ≤ work2 → size a ≤ answer2 → Gives h work2 answer2 a
    gives_higher x w k =
        let none : PassesLimit x.sheet h (seeds x.sheet) → ⊥ = none_higher x.sheet (seeds x.sheet) le x.no_limit in
        record {
          sheet = x.sheet;
          read = x.read;
          work_room = w;
          no_limit = none;
          answer_room = k;
          given = x.given ∙ same l h x.sheet x.no_limit none;
        }

    module _ {work answer : ℕ} where
      -- The lower refuses by anything but 21: so does the higher, at the same place.
      pub refuses_higher : {number place : ℕ} → RefusesWith l work answer number place → (number ≡ large_set → ⊥) → RefusesWith h work answer number place
      refuses_higher (by_sheet e) n = by_sheet e
      refuses_higher (short_work_lem sheet e w) n = short_work_lem sheet e w
      refuses_higher (large_set_lem sheet e w x) n = absurd (n refl)
      refuses_higher (short_answer_lem sheet e w x k) n =
          let none : PassesLimit sheet h (seeds sheet) → ⊥ = none_higher sheet (seeds sheet) le x in
          let m = same l h sheet x none in
          subst (λ (a : A). RefusesWith h work answer short_answer (size a)) (sym m)
          (short_answer_lem sheet e w none (subst (λ (a : A). answer < size a) m k))

      -- The higher refuses by anything but 22: so does the lower, at the same place.
      pub refuses_lower : {number place : ℕ} → RefusesWith h work answer number place → (number ≡ short_answer → ⊥) → RefusesWith l work answer number place
      refuses_lower (by_sheet e) n = by_sheet e
      refuses_lower (short_work_lem sheet e w) n = short_work_lem sheet e w
      refuses_lower (large_set_lem sheet e w x) n = large_set_lem sheet e w (passes_lower sheet (seeds sheet) le x)
      refuses_lower (short_answer_lem sheet e w x k) n = absurd (n refl)

      pub beside : {o : Outcome A} → Decides (RefusesWith l work answer) (Gives l work answer) o → BesideBy Is Not seeds made size l h work answer
      beside (gives_report x) = answer_of_both x (gives_higher x x.work_room x.answer_room)
      beside (gives_refusal x) = refused x
        where
          refused : {number place : ℕ} → RefusesWith l work answer number place → BesideBy Is Not seeds made size l h work answer
          refused (by_sheet e) = refusal_of_both (by_sheet e) (by_sheet e)
          refused (short_work_lem sheet e w) = refusal_of_both (short_work_lem sheet e w) (short_work_lem sheet e w)
          refused (large_set_lem sheet e w x) = lower_large sheet e w x
          refused (short_answer_lem sheet e w x k) =
              refusal_of_both (short_answer_lem sheet e w x k) (refuses_higher (short_answer_lem sheet e w x k) (λ z. omega (arith, z)))

-- the two outcomes are one, or the lower is 21
pub outcomes_beside : {A : Type 0} {Is : Sheet → Type 0} {Not : ℕ → ℕ → Type 0} {seeds : Sheet → List Configuration} {made : Limits → Sheet → A} {size : A → ℕ}
    {l h : Limits} {work answer : ℕ} (o p : Outcome A)
    → ((number place : ℕ) → (o ≡ refusal number place) ↔ RefusesBy Is Not l seeds (λ sheet. size (made l sheet)) work answer number place)
    → ((a : A) → (o ≡ reported a) ↔ GivesBy Is l seeds (made l) size work answer a)
    → ((number place : ℕ) → (p ≡ refusal number place) ↔ RefusesBy Is Not h seeds (λ sheet. size (made h sheet)) work answer number place)
    → ((a : A) → (p ≡ reported a) ↔ GivesBy Is h seeds (made h) size work answer a)
    → BesideBy Is Not seeds made size l h work answer → (o ≡ p) ⊎ (o ≡ refusal large_set 0)
outcomes_beside o p ro go rp gp (answer_of_both {a} x y) = inl ((go a).1 x ∙ sym ((gp a).1 y))
outcomes_beside o p ro go rp gp (refusal_of_both {number} {place} x y) = inl ((ro number place).1 x ∙ sym ((rp number place).1 y))
outcomes_beside o p ro go rp gp (lower_large sheet e w x) = inr ((ro large_set 0).1 (large_set_lem sheet e w x))

-- two choices of one byte string are of one sheet
pub one_choice : (bytes : List ℕ) (left right : ℕ) (x y : Sheet) → ChoiceIs bytes left right x → ChoiceIs bytes left right y → x ≡ y
one_choice bytes left right x y c d = one_sheet bytes c.written d.written
