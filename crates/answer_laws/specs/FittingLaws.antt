-- Every report of the call fits its bytes: its members are ordered, its numbers are small, and its trail stays among its members.
use Rattle.std.specs.Prelude.{◌≡◌, refl, Bool, ◌||◌, length}
use Rattle.std.proofs.Common.{sym, subst, ⊎_elim, arith, pow_mono}
use Rattle.std.proofs.Math.Bool.{true, false}
use mathlib.Core.List.Memᴰ
use mathlib.Core.List.{List, [], ◌∷◌, Memᴰ}
use Prim.Native.Nat.{ℕ, zero, suc, ◌+◌, ◌-◌, ◌^◌, ◌≤◌, ◌<◌}
use Rattle.std.proofs.Math.ListN.{get_or}
use Rattle.std.proofs.Math.Dec.{eqb}
use Rattle.comparison_laws.specs.ListPlaces.{get_d_in}
use Rattle.comparison_laws.specs.Stores.{Constraint}
use Rattle.answers.specs.SheetLimits.{max_facts}
use Rattle.comparison_laws.specs.Sheet.{Configuration, Sheet, start}
use Rattle.comparison_laws.specs.WellFormed.{OfSheet, Admissible, WellFormed}
use Rattle.comparison_laws.specs.ReadingLaws.{written_admissible}
use Rattle.comparison_laws.specs.Orders.{Move}
use Rattle.comparison_laws.specs.Moves.{moves}
use Rattle.comparison_laws.specs.StableRounds.{member_of}
use Rattle.comparison_laws.specs.CallLimits.{Limits, NoGreater, limits}
use Rattle.comparison_laws.specs.Set.{over, explored, fits}
use Rattle.comparison_laws.specs.Classes.{numbered}
use Rattle.comparison_laws.specs.ClassLaws.{Numbering, no_more, in_use, next, numbered_from_numbering, numbered_length}
use Rattle.comparison_laws.specs.Rounds.{rounds, classes, refined, result_of, apart_in, stores_equal, together}
use Rattle.comparison_laws.specs.Trail.{Side, left, right, Reply, none, move, TrailStep, after, first_of, reply_to, unanswered, trail_from}
use Rattle.comparison_laws.specs.TrailLaws.{unanswered_mem, reply_mem, trail_length}
use Rattle.answers.specs.Report.{Report, report_on}
use Rattle.answers.specs.Outcome.{reported}
use Rattle.comparison_laws.specs.Call.{compare_with}
use Rattle.comparison_laws.specs.Promise.{starts_of}
use Rattle.comparison_laws.specs.SetLaws.{explored_seeds, explored_member, explored_ascends, explored_closed, fits_not_over, fits_unpassed}
use Rattle.comparison_laws.specs.RoundLaws.{ClosedList}
use Rattle.comparison_laws.specs.SheetMoves.{lawful}
use Rattle.comparison_laws.specs.SheetTransitions.{transitions}
use Rattle.comparison_laws.specs.ResultLaws.{classes_length, rounds_of, rounds_at, result_is}
use Rattle.comparison_laws.specs.ReportLaws.{within_limits}
use Rattle.comparison_laws.specs.Theorem.{member_some, both_hold}
use Rattle.comparison_laws.specs.CallTheorem.{reports_exactly}
use Rattle.answer_laws.specs.Fitting.{ReplyFits, StepFits, MembersFit, Fitting}

-- ---- classes
-- a number is one of those in use, or one of as many more as there are numbers
numbering_small : {n : ℕ} {ks : List ℕ} → Numbering n ks → (i : ℕ) → get_or ks i 0 ≤ n + length ks
numbering_small no_more zero = omega arith
numbering_small no_more (suc i) = omega arith
numbering_small (in_use h s) zero = omega (arith, h)
numbering_small (in_use h s) (suc i) = omega (arith, numbering_small s i)
numbering_small (next s) zero = omega arith
numbering_small (next s) (suc i) = omega (arith, numbering_small s i)

numbers_small : (test : Configuration → Configuration → Bool) (set : List Configuration) (i : ℕ) → get_or (numbered test set) i 0 ≤ length set
numbers_small test set i = omega (arith, numbering_small (numbered_from_numbering test [] set) i, numbered_length test [] set)

-- the classes of every round are at most the number of members
classes_small : (sheet : Sheet) (set : List Configuration) (n i : ℕ) → get_or (classes sheet set n) i 0 ≤ length set
unfolding classes refined
classes_small sheet set zero i = numbers_small (stores_equal sheet set) set i
classes_small sheet set (suc n) i = numbers_small (together sheet set (classes sheet set n)) set i

-- ---- constraints and labels
module _ (sheet : Sheet) (fine : Admissible sheet) where
  wf : WellFormed sheet
  wf = fine.well_formed

  -- a constraint of a sheet is a number of two bytes
  constraint_small : {c : ℕ} → Constraint sheet.facts sheet.rules c → c < 65536
  constraint_small h =
      let p : 2 ^ sheet.facts ≤ 2 ^ max_facts = pow_mono {i = sheet.facts} {j = max_facts} fine.within.few_facts in
      omega (arith, h.facts, p)

  move_label_small : (p : Configuration) (m : Move) → Memᴰ m (moves sheet p) → m.label < 65536
  move_label_small p m i = constraint_small ((lawful sheet wf).move_constraint p m.label m.target i)

  -- ---- the trail among the members of a closed set
  module _ (set : List Configuration) (rs : List (List ℕ)) (closed : ClosedList sheet set) where
    abbrev AllFit : List TrailStep → Type 0
    AllFit steps = (t : TrailStep) → Memᴰ t steps → StepFits set t

    fit_more : (s : TrailStep) (more : List TrailStep) → StepFits set s → AllFit more → AllFit (s ∷ more)
    fit_more s more h f t i =
        ⊎_elim (λ (e : t ≡ s). subst (StepFits set) (sym e) h) (λ (j : Memᴰ t more). f t j) (Memᴰ.cases_cons i)

    fit_none : AllFit []
    fit_none t i = absurd (Memᴰ.not-nil i)

    -- a reply is a move of the other
    reply_fits : (q : Configuration) → Memᴰ q set → (m : Move) (k : Reply) → reply_to sheet set rs q m ≡ k → ReplyFits set m.label k
    reply_fits q mq m none e = tt
    reply_fits q mq m (move k) e =
        let r = reply_mem sheet set rs q m k e in
        (r.1, closed.targets q k mq r.0)

    after_fits : (more : Configuration → Configuration → List TrailStep)
        → ((p q : Configuration) → Memᴰ p set → Memᴰ q set → AllFit (more p q))
        → (side : Side) (m : Move) (k : Reply) → m.label < 65536 → Memᴰ m.target set → ReplyFits set m.label k
        → AllFit (after sheet set rs more side m k)
    after_fits more f side m none h i r =
        fit_more (record { side = side; label = m.label; target = m.target; reply = none }) []
        (record { label = h; target = i; reply = r }) fit_none
    after_fits more f left m (move k) h i r =
        fit_more (record { side = left; label = m.label; target = m.target; reply = move k }) (more m.target k.target)
        (record { label = h; target = i; reply = r }) (f m.target k.target i r.1)
    after_fits more f right m (move k) h i r =
        fit_more (record { side = right; label = m.label; target = m.target; reply = move k }) (more k.target m.target)
        (record { label = h; target = i; reply = r }) (f k.target m.target r.1 i)

    first_fits : (more : Configuration → Configuration → List TrailStep)
        → ((p q : Configuration) → Memᴰ p set → Memᴰ q set → AllFit (more p q))
        → (p q : Configuration) → Memᴰ p set → Memᴰ q set → (ms ks : List Move)
        → ((m : Move) → Memᴰ m ms → Memᴰ m (moves sheet p)) → ((k : Move) → Memᴰ k ks → Memᴰ k (moves sheet q))
        → AllFit (first_of sheet set rs more p q ms ks)
    first_fits more f p q mp mq (m ∷ ms) ks g h =
        let i = g m (Memᴰ.head refl) in
        after_fits more f left m (reply_to sheet set rs q m) (move_label_small p m i) (closed.targets p m mp i)
        (reply_fits q mq m (reply_to sheet set rs q m) refl)
    first_fits more f p q mp mq [] (k ∷ ks) g h =
        let i = h k (Memᴰ.head refl) in
        after_fits more f right k (reply_to sheet set rs p k) (move_label_small q k i) (closed.targets q k mq i)
        (reply_fits p mp k (reply_to sheet set rs p k) refl)
    first_fits more f p q mp mq [] [] g h = fit_none

    trail_fits : (n : ℕ) (p q : Configuration) → Memᴰ p set → Memᴰ q set → AllFit (trail_from sheet set rs n p q)
    unfolding trail_from
    trail_fits zero p q mp mq = fit_none
    trail_fits (suc n) p q mp mq = go (trail_fits n) (eqb (apart_in set rs p q) 0 || eqb (apart_in set rs p q) (length rs))
      where
        go : ((p q : Configuration) → Memᴰ p set → Memᴰ q set → AllFit (trail_from sheet set rs n p q)) → (b : Bool)
            → AllFit (elim b [
              | true ↦ []
              | false ↦
                  let classes = get_or rs (apart_in set rs p q - 1) [] in
                  first_of sheet set rs (trail_from sheet set rs n) p q (unanswered sheet set rs classes p q) (unanswered sheet set rs classes q p)
            ])
        go ih true = fit_none
        go ih false =
            let classes : List ℕ = get_or rs (apart_in set rs p q - 1) [] in
            first_fits (trail_from sheet set rs n) ih p q mp mq (unanswered sheet set rs classes p q) (unanswered sheet set rs classes q p)
            (λ m i. (unanswered_mem sheet set rs classes p q i).0)
            (λ k i. (unanswered_mem sheet set rs classes q p i).0)

  -- ---- the set that grows from configurations of the sheet and passes no limit
  module _ (l : Limits) (small : NoGreater l limits) (seeds : List Configuration) (of : (m : Configuration) → Memᴰ m seeds → OfSheet sheet m)
      (fit : fits sheet l (explored sheet l seeds) ≡ true) where
    abbrev set_of : List Configuration
    set_of = explored sheet l seeds

    abbrev rounds_of_set : List (List ℕ)
    rounds_of_set = rounds sheet set_of

    within : over l set_of ≡ false
    within = fits_not_over sheet l seeds fit

    few_members : length set_of ≤ limits.members
    few_members = omega (arith, (within_limits l set_of within).0, small.members)

    -- with the classes of any round
    pub round_fit : (n : ℕ) → MembersFit set_of (classes sheet set_of n)
    round_fit n =
        record {
          ordered = explored_ascends sheet l seeds;
          stores = λ m i.
              constraint_small (member_of (transitions sheet) (lawful sheet wf) seeds of m (explored_member sheet l seeds m i)).store;
          threads = λ m i. omega (arith, (within_limits l set_of within).1 m i, small.threads);
          numbered = classes_length sheet set_of n;
          classes = λ i h. omega (arith, classes_small sheet set_of n i, few_members);
          few = few_members;
        }

    -- with those of the result's
    pub members_fit : 1 ≤ length set_of → MembersFit set_of (get_or rounds_of_set (result_of rounds_of_set) [])
    members_fit some =
        let closed = explored_closed sheet l seeds within in
        let last : result_of rounds_of_set < length rounds_of_set = omega (arith, (rounds_of sheet set_of wf closed some).some) in
        subst (MembersFit set_of) (sym (rounds_at sheet set_of wf closed some (result_of rounds_of_set) last)) (round_fit (result_of rounds_of_set))

  -- the report on two configurations of the sheet
  pub report_fits : (l : Limits) → NoGreater l limits → (p q : Configuration) → OfSheet sheet p → OfSheet sheet q
      → fits sheet l (explored sheet l (p ∷ q ∷ [])) ≡ true
      → Fitting (report_on sheet (explored sheet l (p ∷ q ∷ [])) p q)
  unfolding report_on
  report_fits l small p q op oq fit =
      let seeds : List Configuration = p ∷ q ∷ [] in
      let set : List Configuration = explored sheet l seeds in
      let rs : List (List ℕ) = rounds sheet set in
      let closed = explored_closed sheet l seeds (fits_not_over sheet l seeds fit) in
      let some = member_some set (explored_seeds sheet l seeds p (Memᴰ.head refl)) in
      let listed = members_fit l small seeds (both_hold (OfSheet sheet) op oq) fit some in
      record {
        listed = listed;
        steps =
            trail_fits set rs closed (length rs) p q (explored_seeds sheet l seeds p (Memᴰ.head refl))
            (explored_seeds sheet l seeds q (Memᴰ.tail (Memᴰ.head refl)));
        few_steps = omega (arith, trail_length sheet set rs p q, (result_is sheet set wf closed some).few, listed.few);
      }

-- ---- the call
-- Every report of the call fits its bytes, at limits that are not above document 01's.
pub outcome_fits : (l : Limits) → NoGreater l limits → (bytes : List ℕ) (first second work answer : ℕ) (q : Report)
    → compare_with l bytes first second work answer ≡ reported q → Fitting q
outcome_fits l small bytes first second work answer q e =
    let g = (reports_exactly l bytes first second work answer q).0 e in
    let sheet : Sheet = g.sheet in
    let c = g.read in
    let fine : Admissible sheet = written_admissible bytes sheet c.written in
    subst Fitting (sym g.given)
    (report_fits sheet fine l small (start sheet first) (start sheet second)
    (fine.starts_fit (start sheet first) (get_d_in sheet.starts first (record { store = 0; threads = [] }) c.left_there))
    (fine.starts_fit (start sheet second) (get_d_in sheet.starts second (record { store = 0; threads = [] }) c.right_there))
    (fits_unpassed sheet l (starts_of sheet first second) g.no_limit))
