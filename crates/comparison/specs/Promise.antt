-- The promise, as statements: when the call refuses and when it reports, and what a report says, in terms of the set itself, of
-- the watcher and of saturated barbed bisimulations over all configurations of the sheet. `SetLaws`, `Theorem` and
-- `CallTheorem` prove it.
use Rattle.std.specs.Prelude.{◌≡◌, ◌↔◌, ◌⊎◌, true, ℕ, suc, ◌≤◌, ◌<◌, length, get_or}
use mathlib.Core.List.{List, [], ◌∷◌, Memᴰ}
use Rattle.moves.specs.Lists.{Ascends, MoreThan}
use Rattle.moves.specs.Refusals.{large_set, short_answer, short_work}
use Rattle.moves.specs.Sheet.{Configuration, Sheet, start}
use Rattle.sheet_reading.specs.SheetBytes.{ChoiceIs, ChoiceRefused}
use Rattle.moves.specs.Orders.{Move, configuration_before, move_before}
use Rattle.moves.specs.Moves.{moves, Moves}
use Rattle.comparison.specs.CallLimits.{Limits, work_length}
use Rattle.comparison.specs.Set.{explored}
use Rattle.comparison.specs.Outcome.{work_refused}
use Rattle.comparison.specs.Classes.{share}
use Rattle.comparison.specs.Trail as trail
use Rattle.comparison.specs.Trail.{TrailStep}
use Rattle.comparison.specs.Report.{SAME, DIFF, Report, report_on, report_length}
use Rattle.refinement.specs.Refinement.{Member, Redundant, Round, Level, TellsApart, Bisimilar, FirstApart}
use Rattle.comparison.specs.SheetTransitions.{transitions}

-- n is the first round in which no two members of the set are split in the next
pub record ResultRound (sheet : Sheet) (seeds : List Configuration) (n : ℕ) : Type 0 where
  pub stable : (x y : Configuration) → Member (transitions sheet) seeds x → Member (transitions sheet) seeds y
      → Round (transitions sheet) n x y → Round (transitions sheet) (suc n) x y
  pub first : (m : ℕ) → m < n
      → ((x y : Configuration) → Member (transitions sheet) seeds x → Member (transitions sheet) seeds y
      → Round (transitions sheet) m x y → Round (transitions sheet) (suc m) x y) → ⊥

-- Classes are numbered from 0 by first member: each member has a number that an earlier one has, or the least that none has.
pub record NumberedByFirst (classes : List ℕ) : Type 0 where
  pub at : (i : ℕ) → i < length classes
      → ((j : ℕ) × (j < i) × (get_or classes j 0 ≡ get_or classes i 0))
      ⊎ (((j : ℕ) → j < i → get_or classes j 0 ≡ get_or classes i 0 → ⊥)
      × ((c : ℕ) → c < get_or classes i 0 → (j : ℕ) × (j < i) × (get_or classes j 0 ≡ c)))

-- A move of p tells it from q, the two being first separated in the round after r: it is irredundant in round r, and no move of q
-- with its label leads into the class of round r of its target.
pub record Tells (sheet : Sheet) (r : ℕ) (p q : Configuration) (a : ℕ) (t : Configuration) : Type 0 where
  pub move : Moves sheet p a t
  pub irredundant : Redundant (transitions sheet) (Round (transitions sheet) r) p a t → ⊥
  pub unanswered : (u : Configuration) → Moves sheet q a u → Round (transitions sheet) r t u → ⊥

-- The move that is taken: the first that tells, in the order of moves.
pub record Telling (sheet : Sheet) (r : ℕ) (p q : Configuration) (a : ℕ) (t : Configuration) : Type 0 where
  pub tells : Tells sheet r p q a t
  pub first : (b : ℕ) (u : Configuration) → Tells sheet r p q b u
      → move_before (record { label = b; target = u }) (record { label = a; target = t }) ≡ true → ⊥

-- A reply to a move with label a into t: a move of q with that label, and none of them leads to a target that is separated
-- from t in a higher round, or to an earlier target that is separated in the same round; n is the round of the new pair.
pub record Replied (sheet : Sheet) (q : Configuration) (a : ℕ) (t : Configuration) (k : Move) (n : ℕ) : Type 0 where
  pub label : k.label ≡ a
  pub move : Memᴰ k (moves sheet q)
  pub round : FirstApart (transitions sheet) (Round (transitions sheet)) n t k.target
  pub highest : (u : Configuration) (i : ℕ) → Moves sheet q a u → FirstApart (transitions sheet) (Round (transitions sheet)) i t u → i ≤ n
  pub earliest : (u : Configuration) → Moves sheet q a u → FirstApart (transitions sheet) (Round (transitions sheet)) n t u
      → configuration_before u k.target ≡ true → ⊥

-- A trail that a person can walk with the sheet in hand, from a left and a right configuration that are first separated in
-- round n: each step is the first move that tells the mover from the other, its reply leads to a pair of a lower round, and the trail
-- ends at unequal stores or where there is no reply. Sides are kept; the right moves only where no move of the left tells.
pub data Walkable (sheet : Sheet) : ℕ → Configuration → Configuration → List TrailStep → Type 0 where
  unequal_stores : {p q : Configuration} → FirstApart (transitions sheet) (Round (transitions sheet)) 0 p q → Walkable sheet 0 p q []
  left_alone : {r a : ℕ} {p q t : Configuration} → FirstApart (transitions sheet) (Round (transitions sheet)) (suc r) p q
      → Telling sheet r p q a t → ((u : Configuration) → Moves sheet q a u → ⊥)
      → Walkable sheet (suc r) p q (record { side = trail.left; label = a; target = t; reply = trail.none } ∷ [])
  left_replied : {r n a : ℕ} {p q t : Configuration} {k : Move} {steps : List TrailStep}
      → FirstApart (transitions sheet) (Round (transitions sheet)) (suc r) p q
      → Telling sheet r p q a t → Replied sheet q a t k n → n ≤ r → Walkable sheet n t k.target steps
      → Walkable sheet (suc r) p q (record { side = trail.left; label = a; target = t; reply = trail.move k } ∷ steps)
  right_alone : {r a : ℕ} {p q t : Configuration} → FirstApart (transitions sheet) (Round (transitions sheet)) (suc r) p q
      → ((b : ℕ) (u : Configuration) → Tells sheet r p q b u → ⊥)
      → Telling sheet r q p a t → ((u : Configuration) → Moves sheet p a u → ⊥)
      → Walkable sheet (suc r) p q (record { side = trail.right; label = a; target = t; reply = trail.none } ∷ [])
  right_replied : {r n a : ℕ} {p q t : Configuration} {k : Move} {steps : List TrailStep}
      → FirstApart (transitions sheet) (Round (transitions sheet)) (suc r) p q
      → ((b : ℕ) (u : Configuration) → Tells sheet r p q b u → ⊥)
      → Telling sheet r q p a t → Replied sheet p a t k n → n ≤ r → Walkable sheet n k.target t steps
      → Walkable sheet (suc r) p q (record { side = trail.right; label = a; target = t; reply = trail.move k } ∷ steps)

-- What the members of an answer say of the set that grows from the seeds, and how their classes are numbered.
pub record SetListed (sheet : Sheet) (seeds members : List Configuration) (numbers : List ℕ) : Type 0 where
  -- the set is listed whole, each member once and in its order
  pub ordered : Ascends configuration_before members
  pub whole : (x : Configuration) → Memᴰ x members ↔ Member (transitions sheet) seeds x
  -- each member has a class, and classes are numbered from 0 by first member
  pub classed : length numbers ≡ length members
  pub numbering : NumberedByFirst numbers

-- The same with the classes of bisimilarity.
pub record Classified (sheet : Sheet) (seeds members : List Configuration) (numbers : List ℕ) : Type 1 where
  pub set : SetListed sheet seeds members numbers
  -- two members share a class exactly when a saturated barbed bisimulation contains the two as a pair
  pub classes : (x y : Configuration) → Memᴰ x members → Memᴰ y members
      → (share members numbers x y ≡ true) ↔ Bisimilar (transitions sheet) x y

-- What a report on two starts p and q says. Demand 3, sentence by sentence.
pub record Faithful (sheet : Sheet) (p q : Configuration) (r : Report) : Type 1 where
  -- the report lists the set, with the classes of bisimilarity
  pub listed : Classified sheet (p ∷ q ∷ []) r.members r.classes
  -- DIFF exactly when no saturated barbed bisimulation contains the two configurations
  pub diff : (r.verdict ≡ DIFF) ↔ (Bisimilar (transitions sheet) p q → ⊥)
  -- the round of a DIFF is the least number of moves in which a watcher can tell them apart
  pub diff_round : r.verdict ≡ DIFF → FirstApart (transitions sheet) (Level (transitions sheet)) r.round p q
  -- SAME exactly when he cannot tell them apart in any number of moves
  pub same : (r.verdict ≡ SAME) ↔ ((n : ℕ) → TellsApart (transitions sheet) n p q → ⊥)
  -- SAME carries the number of the result's round
  pub same_round : r.verdict ≡ SAME → ResultRound sheet (p ∷ q ∷ []) r.round
  -- the trail of a DIFF can be walked with the sheet in hand; that of a SAME is empty
  pub trail_walks : r.verdict ≡ DIFF → Walkable sheet r.round p q r.steps
  pub trail_none : r.verdict ≡ SAME → r.steps ≡ []
  -- the places of both starts
  pub left_place_lem : (r.left_place < length r.members) × (get_or r.members r.left_place p ≡ p)
  pub right_place_lem : (r.right_place < length r.members) × (get_or r.members r.right_place q ≡ q)

-- ---- the limits
-- A move of a member of the set.
pub record MemberMove : Type 0 where
  pub member : Configuration
  pub move : Move

-- The conditions of refusal 21, said of the set itself, which may be infinite.
pub data PassesLimit (sheet : Sheet) (l : Limits) (seeds : List Configuration) : Type 0 where
  -- more than so many members
  many_members : MoreThan l.members (Member (transitions sheet) seeds) → PassesLimit sheet l seeds
  -- a member of more than so many threads
  many_threads_lem : (p : Configuration) → Member (transitions sheet) seeds p → l.threads < length p.threads → PassesLimit sheet l seeds
  -- the members have more than so many moves together
  many_moves : MoreThan l.moves (λ (x : MemberMove). Member (transitions sheet) seeds x.member × Memᴰ x.move (moves sheet x.member)) → PassesLimit sheet l seeds

-- ---- a call that works out a set and writes an answer: `Is` says by which sheet it goes, `Not` what refuses its bytes or its choice; the
-- set grows from `seeds`
-- When it refuses, and how; the answer has `needed` bytes.
pub data RefusesBy (Is : Sheet → Type 0) (Not : ℕ → ℕ → Type 0) (l : Limits) (seeds : Sheet → List Configuration) (needed : Sheet → ℕ) (work answer : ℕ)
    : ℕ → ℕ → Type 0 where
  -- by the sheet or the choice, handed up unaltered
  by_sheet : {number place : ℕ} → Not number place → RefusesBy Is Not l seeds needed work answer number place
  -- 23: the work slice is too short
  short_work_lem : (sheet : Sheet) → Is sheet → work < work_length → RefusesBy Is Not l seeds needed work answer short_work 0
  -- 21: the set itself passes a limit
  large_set_lem : (sheet : Sheet) → Is sheet → work_length ≤ work → PassesLimit sheet l (seeds sheet)
      → RefusesBy Is Not l seeds needed work answer large_set 0
  -- 22: the answer slice is too short, at the length needed
  short_answer_lem : (sheet : Sheet) → Is sheet → work_length ≤ work → (PassesLimit sheet l (seeds sheet) → ⊥) → answer < needed sheet
      → RefusesBy Is Not l seeds needed work answer short_answer (needed sheet)

-- When it gives an answer, and which: what `made` is of the sheet, with as many bytes as `size` says.
pub record GivesBy {A : Type 0} (Is : Sheet → Type 0) (l : Limits) (seeds : Sheet → List Configuration) (made : Sheet → A) (size : A → ℕ) (work answer : ℕ)
    (a : A) : Type 0 where
  pub sheet : Sheet
  pub read : Is sheet
  pub work_room : work_length ≤ work
  pub no_limit : PassesLimit sheet l (seeds sheet) → ⊥
  pub answer_room : size a ≤ answer
  pub given : a ≡ made sheet

-- What goes with a refusal, where the work slice v became w and the answer slice `before` became `after`: its condition holds, the answer
-- slice is untouched, and the work slice is cleared after 21 and 22 and untouched after any other.
pub record RefusalBy (Refuses : ℕ → ℕ → ℕ → ℕ → Type 0) (v before w after : List ℕ) (number place : ℕ) : Type 0 where
  pub refuses : Refuses (length v) (length before) number place
  pub untouched : after ≡ before
  pub work : w ≡ work_refused number v

-- What was returned, `answer`: each refusal under its condition and no other, and otherwise `of` what the call gives; `Made` says what
-- goes with that.
pub record PromiseBy {A X R : Type 0} (refuse : ℕ → ℕ → R) (Refuses : ℕ → ℕ → ℕ → ℕ → Type 0) (give : X → R) (of : A → X)
    (Gives : ℕ → ℕ → A → Type 0) (Made : List ℕ → List ℕ → List ℕ → List ℕ → X → Type 1) (v before w after : List ℕ) (answer : R)
    : Type 1 where
  pub refused : (number place : ℕ) → answer ≡ refuse number place → RefusalBy Refuses v before w after number place
  pub to_refuse : (number place : ℕ) → Refuses (length v) (length before) number place → answer ≡ refuse number place
  pub made : (x : X) → answer ≡ give x → Made v before w after x
  pub to_give : (a : A) → Gives (length v) (length before) a → answer ≡ give (of a)

-- ---- the comparing call
-- the report on two starts of a sheet, with the set that grows from them
abbrev pub report_for : Limits → Sheet → ℕ → ℕ → Report
report_for l sheet left right =
    report_on sheet (explored sheet l (start sheet left ∷ start sheet right ∷ [])) (start sheet left) (start sheet right)

-- the seeds of a comparison: both starts
abbrev pub starts_of : Sheet → ℕ → ℕ → List Configuration
starts_of sheet left right = start sheet left ∷ start sheet right ∷ []

-- When the call refuses, and how: 22 where the answer slice is shorter than the report.
abbrev pub Refuses : Limits → List ℕ → ℕ → ℕ → ℕ → ℕ → ℕ → ℕ → Type 0
Refuses l bytes left right work answer =
    RefusesBy (ChoiceIs bytes left right) (ChoiceRefused bytes left right) l (λ sheet. starts_of sheet left right)
    (λ sheet. report_length (report_for l sheet left right)) work answer

-- When the call reports, and what.
abbrev pub Reports : Limits → List ℕ → ℕ → ℕ → ℕ → ℕ → Report → Type 0
Reports l bytes left right work answer =
    GivesBy (ChoiceIs bytes left right) l (λ sheet. starts_of sheet left right) (λ sheet. report_for l sheet left right) report_length work answer
