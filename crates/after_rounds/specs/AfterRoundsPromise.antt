-- The promise of the call for so many rounds, within limits that are given (document 02, card 13): when it refuses, and what an answer
-- says, in terms of the set itself and of the watcher; of what is returned and of what stands in both slices afterwards.
use Rattle.std.specs.Prelude.{◌≡◌, ◌↔◌, Bool, true, false, ℕ, ◌≤◌, ◌<◌, length, drop}
use mathlib.Core.List.{List, [], ◌∷◌, ◌++◌, Memᴰ}
use Rattle.answers.specs.Sheet.{Configuration, Sheet, start}
use Rattle.answers.specs.SheetBytes.{ChoiceIs, ChoiceRefused}
use Rattle.answers.specs.Refinement.{Member, TellsApart}
use Rattle.answers.specs.CallLimits.{Limits}
use Rattle.answers.specs.Classes.{share, class_total}
use Rattle.answers.specs.Set.{explored}
use Rattle.answers.specs.SheetTransitions.{transitions}
use Rattle.answers.specs.Outcome.{cleared, Outcome, refusal, reported}
use Rattle.answers.specs.Promise.{RefusesBy, GivesBy, PromiseBy, ResultRound, SetListed, starts_of}
use Rattle.answers.specs.OutcomeOf.{CallResult, outcome_of}
use Rattle.answers.specs.declared.Reported.{Reported}
use Rattle.call_promise.specs.CallPromise.{report_read}
use Rattle.call_promise.specs.TwoCalls.{OneWritten, LowerBy}
use Rattle.after_rounds.specs.AfterRounds.{SAME, DIFF, AfterRounds, after_on, after_bytes, after_length}
use Rattle.after_rounds.specs.AfterRoundsRead.{reached_of, after_read}
use Rattle.after_rounds.specs.declared.Verdict.{Verdict}
use Rattle.after_rounds.specs.declared.Verdict.TheVariants.{Same, Diff}
use Rattle.after_rounds.specs.declared.Reached.{Reached}

-- A watcher can tell two configurations apart in some number of moves up to k.
pub record ToldBy (sheet : Sheet) (k : ℕ) (p q : Configuration) : Type 0 where
  pub moves : ℕ
  pub few : moves ≤ k
  pub apart : TellsApart (transitions sheet) moves p q

-- no watcher can, in any number of moves
abbrev pub NeverTold : Sheet → Configuration → Configuration → Type 0
NeverTold sheet p q = (n : ℕ) → TellsApart (transitions sheet) n p q → ⊥

-- no two members of the set part after round k: what is not told apart by then is never told apart
abbrev pub NonePart : Sheet → List Configuration → ℕ → Type 0
NonePart sheet seeds k =
    (x y : Configuration) → Member (transitions sheet) seeds x → Member (transitions sheet) seeds y → (ToldBy sheet k x y → ⊥) → NeverTold sheet x y

-- What an answer on two starts p and q after k rounds says.
pub record FaithfulAfter (sheet : Sheet) (k : ℕ) (p q : Configuration) (a : AfterRounds) : Type 0 where
  -- it lists the set
  pub listed : SetListed sheet (p ∷ q ∷ []) a.members a.classes
  -- two members share a class exactly when no watcher tells them apart in k moves
  pub shared : (x y : Configuration) → Memᴰ x a.members → Memᴰ y a.members
      → (share a.members a.classes x y ≡ true) ↔ (ToldBy sheet k x y → ⊥)
  -- DIFF exactly when a watcher tells the starts apart in at most k moves
  pub diff : (a.verdict ≡ DIFF) ↔ ToldBy sheet k p q
  -- SAME exactly when no watcher can in any number of moves, and no two members part after round k
  pub same : (a.verdict ≡ SAME) ↔ (NeverTold sheet p q × NonePart sheet (p ∷ q ∷ []) k)

-- the answer on two starts of a sheet, with the set that grows from them
abbrev pub after_for : Limits → Sheet → ℕ → ℕ → ℕ → AfterRounds
after_for l sheet left right k = after_on sheet (explored sheet l (starts_of sheet left right)) k (start sheet left) (start sheet right)

-- When the call refuses, and how: 22 where the answer slice is shorter than the answer.
abbrev pub RefusesAfter : Limits → List ℕ → ℕ → ℕ → ℕ → ℕ → ℕ → ℕ → ℕ → Type 0
RefusesAfter l bytes left right k =
    RefusesBy (ChoiceIs bytes left right) (ChoiceRefused bytes left right) l (λ sheet. starts_of sheet left right)
    (λ sheet. after_length (after_for l sheet left right k))

-- When it does not, and what it gives.
abbrev pub GivesAfter : Limits → List ℕ → ℕ → ℕ → ℕ → ℕ → ℕ → AfterRounds → Type 0
GivesAfter l bytes left right k =
    GivesBy (ChoiceIs bytes left right) l (λ sheet. starts_of sheet left right) (λ sheet. after_for l sheet left right k) after_length

-- What goes with an answer: what is read back is the one that the sheet, the choice and k ask for, and it is faithful to the sheet; the
-- numbers returned are its own; its bytes stand in front of the answer slice, and the rest of it is as before; the work slice is cleared.
pub record ReachedPromise (l : Limits) (bytes : List ℕ) (left right k : ℕ) (v before w after : List ℕ) (x : Reached) : Type 1 where
  pub gives : GivesAfter l bytes left right k (length v) (length before) (after_read x after)
  pub faithful : (sheet : Sheet) × ChoiceIs bytes left right sheet
      × FaithfulAfter sheet k (start sheet left) (start sheet right) (after_read x after)
  pub returned : x ≡ reached_of (after_read x after)
  -- the numbers of classes are those below the number of classes
  pub counted : (c : ℕ) → (c < x.classes) ↔ Memᴰ c (after_read x after).classes
  pub written : after ≡ after_bytes (after_read x after) ++ drop x.length before
  pub work : w ≡ cleared v

-- The work slice v became w, the answer slice `before` became `after`, and `answer` was returned: each refusal under its condition
-- and no other, and otherwise the answer.
abbrev pub RoundsPromise : Limits → List ℕ → ℕ → ℕ → ℕ → List ℕ → List ℕ → List ℕ → List ℕ → Outcome Reached → Type 1
RoundsPromise l bytes left right k =
    PromiseBy refusal (RefusesAfter l bytes left right k) reported reached_of (GivesAfter l bytes left right k) (ReachedPromise l bytes left right k)

-- The same of the value that the code returns.
abbrev pub RoundsReturnedPromise : Limits → List ℕ → ℕ → ℕ → ℕ → List ℕ → List ℕ → List ℕ → List ℕ → CallResult Reached → Type 1
RoundsReturnedPromise l bytes left right k v before w after r = RoundsPromise l bytes left right k v before w after (outcome_of r)

-- ---- the card's sentences
-- Two answers on the same starts, y after at least as many rounds as x: SAME and DIFF stay.
pub record Unaltered (x y : Reached) : Type 0 where
  pub same : x.verdict ≡ Same → y.verdict ≡ Same
  pub diff : x.verdict ≡ Diff → y.verdict ≡ Diff

-- Two answers on the same starts after the same number of rounds, each within limits of its own and in slices of its own.
abbrev pub OneAnswer : Reached → List ℕ → Reached → List ℕ → Type 0
OneAnswer = OneWritten (λ x. x.length)

-- Card 3's sentence for this call: one input and the same slices, the first call within limits l, which are nowhere above those of the
-- second.
abbrev pub LowerRounds : Limits → List ℕ → ℕ → ℕ → List ℕ → List ℕ → Outcome Reached → List ℕ → List ℕ → Outcome Reached → Type 0
LowerRounds = LowerBy refusal

-- a report's verdict
abbrev pub report_verdict : Bool → Verdict
report_verdict true = Same
report_verdict false = Diff

-- An answer after k rounds, x with the bytes `after`, and a report on the same starts, y with the bytes `after2`.
pub record BesideReport (sheet : Sheet) (left right k : ℕ) (x : Reached) (after : List ℕ) (y : Reported) (after2 : List ℕ) : Type 0 where
  -- the final number of classes is at least the number of classes returned, and at most the set's size
  pub at_least : x.classes ≤ class_total (report_read y after2).classes
  pub at_most : class_total (report_read y after2).classes ≤ x.members
  -- the members are the report's
  pub members : (after_read x after).members ≡ (report_read y after2).members
  -- from the result's round on the classes and the verdict are too
  pub classes : (n : ℕ) → ResultRound sheet (starts_of sheet left right) n → n ≤ k → (after_read x after).classes ≡ (report_read y after2).classes
  pub verdict : (n : ℕ) → ResultRound sheet (starts_of sheet left right) n → n ≤ k → x.verdict ≡ report_verdict y.same
