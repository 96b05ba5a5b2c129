-- The room for an answer: with too little of it the length needed is told, and otherwise the answer is given. Of a call's refusals 22
-- and 21 are given by their own conditions alone, where reading has other numbers.
use Rattle.std.specs.Prelude.{◌≡◌, refl, Bool, cond, List, ℕ, ◌≤◌, ◌<◌, length}
use Rattle.std.proofs.Common.{ap, arith, lt-ltb, le-ltb}
use Rattle.comparison.specs.Refusals.{large_set, short_answer}
use Rattle.move_laws.specs.Sheet.{Configuration, Sheet}
use Rattle.comparison.specs.CallLimits.{Limits}
use Rattle.comparison.specs.Outcome.{Outcome, reported, refusal}
use Rattle.comparison.specs.Frame.{with_room}
use Rattle.comparison.specs.Promise.{PassesLimit, RefusesBy, by_sheet, short_work_lem, large_set_lem, short_answer_lem}

module _ {A : Type 0} (bytes : A → List ℕ) (answer : ℕ) (a : A) where
  abbrev by_room : Bool → Outcome A
  by_room b = cond b (refusal short_answer (length (bytes a))) (reported a)

  pub room_short : answer < length (bytes a) → with_room bytes answer a ≡ refusal short_answer (length (bytes a))
  room_short h = ap by_room (lt-ltb answer (length (bytes a)) h)

  pub room_given : length (bytes a) ≤ answer → with_room bytes answer a ≡ reported a
  room_given h = ap by_room (le-ltb answer (length (bytes a)) h)

module _ {Is : Sheet → Type 0} {Not : ℕ → ℕ → Type 0} {l : Limits} {seeds : Sheet → List Configuration} {needed : Sheet → ℕ} {work answer place : ℕ} where
  -- 22 is not given where every answer has its room
  pub never_short_answer : ((k : ℕ) → Not short_answer k → ⊥)
      → ((sheet : Sheet) → Is sheet → (PassesLimit sheet l (seeds sheet) → ⊥) → needed sheet ≤ answer)
      → RefusesBy Is Not l seeds needed work answer short_answer place → ⊥
  never_short_answer not room x = go refl x
    where
      go : {number at : ℕ} → number ≡ short_answer → RefusesBy Is Not l seeds needed work answer number at → ⊥
      go {at = at} n (by_sheet e) = not at (rw (n) at e)
      go n (short_work_lem sheet e w) = omega (arith, n)
      go n (large_set_lem sheet e w p) = omega (arith, n)
      go n (short_answer_lem sheet e w p h) = omega (arith, h, room sheet e p)

  -- 21 is given only where the set passes a limit
  pub by_large_set : ((k : ℕ) → Not large_set k → ⊥) → RefusesBy Is Not l seeds needed work answer large_set place
      → (sheet : Sheet) × Is sheet × PassesLimit sheet l (seeds sheet)
  by_large_set not x = go refl x
    where
      go : {number at : ℕ} → number ≡ large_set → RefusesBy Is Not l seeds needed work answer number at
          → (sheet : Sheet) × Is sheet × PassesLimit sheet l (seeds sheet)
      go {at = at} n (by_sheet e) = absurd (not at (rw (n) at e))
      go n (short_work_lem sheet e w) = absurd (omega (arith, n))
      go n (large_set_lem sheet e w p) = (sheet, e, p)
      go n (short_answer_lem sheet e w p h) = absurd (omega (arith, n))
