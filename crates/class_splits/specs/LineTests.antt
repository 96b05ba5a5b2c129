-- Whether two members have the same lines, as numbers that stand in the slice.
use Rattle.std.specs.Prelude.{◌≡◌, Bool, List, ℕ, ◌+◌, ◌-◌, ◌≤◌, ◌<◌, length, get_or}
use Rattle.std.proofs.Common.{sym, ap, ap₂, ◌∙◌, arith}
use Rattle.work_layout.specs.PlacesPassed.{holds_next}
use Rattle.work_layout.specs.Tabulate.{tabulate, tabulate_same, tabulate_at}
use Rattle.work_layout.specs.NumberLists.{numbers_in}
use Rattle.work_layout.specs.NumberLaws.{numbers_tabulate, numbers_length}
use Rattle.work_layout.specs.SetLayout.{first_move}
use Rattle.round_lines.specs.MemberLinesFound.{line_total}
use Rattle.class_splits.specs.ClassedPlaces.{Tells, chosen_in}
use Rattle.work_layout.specs.WorkLayout.{work_end, lines_at, member_room, move_room}
use Rattle.work_layout.specs.ClassLayout.{from_in_lem}

-- the k numbers from place a on
abbrev pub numbers_from : List ℕ → ℕ → ℕ → List ℕ
numbers_from w a k = numbers_in w a (a + k)

-- the lines of the member at place i
abbrev pub lines_held : List ℕ → ℕ → List ℕ
lines_held w i = numbers_from w (lines_at + first_move w i) (line_total w i)

-- its lines can be read
abbrev pub LineFits : List ℕ → ℕ → Type 0
LineFits w i = (i < member_room) × (first_move w i + line_total w i ≤ move_room)

-- class k came from class c, and its chosen member has the lines of the member at place i
abbrev pub PartFits : List ℕ → ℕ → ℕ → ℕ → Type 0
PartFits w k c i = (from_in_lem w k ≡ c) × (lines_held w i ≡ lines_held w (chosen_in w k))

by_places : (w : List ℕ) (a k : ℕ) → a + k ≤ length w → numbers_from w a k ≡ tabulate (λ j. get_or w (a + j) 0) k
by_places w a k h =
    let e : a + k - a ≡ k = omega arith in
    numbers_tabulate w a (a + k) (omega arith) h ∙ ap (tabulate (λ j. get_or w (a + j) 0)) e

-- as long as the numbers at the places passed agree
abbrev pub AgreeBelow : List ℕ → ℕ → ℕ → ℕ → Type 0
AgreeBelow w a b i = (j : ℕ) → j < i → get_or w (a + j) 0 ≡ get_or w (b + j) 0

pub agree_more : (w : List ℕ) (a b i : ℕ) → AgreeBelow w a b i → get_or w (a + i) 0 ≡ get_or w (b + i) 0 → AgreeBelow w a b (i + 1)
agree_more w a b i f e j l = holds_next (λ k. get_or w (a + k) 0 ≡ get_or w (b + k) 0) 0 i (λ k _ m. f k m) e j (omega arith) l

module _ (w : List ℕ) (a b k : ℕ) (ha : a + k ≤ length w) (hb : b + k ≤ length w) where
  pub agree_same : AgreeBelow w a b k → numbers_from w a k ≡ numbers_from w b k
  agree_same f =
      by_places w a k ha ∙ tabulate_same (λ j. get_or w (a + j) 0) (λ j. get_or w (b + j) 0) k f ∙ sym (by_places w b k hb)

  pub same_agree : numbers_from w a k ≡ numbers_from w b k → AgreeBelow w a b k
  same_agree e j l =
      sym (tabulate_at (λ j. get_or w (a + j) 0) k j 0 l)
      ∙ ap (λ (s : List ℕ). get_or s j 0) (sym (by_places w a k ha) ∙ e ∙ by_places w b k hb)
      ∙ tabulate_at (λ j. get_or w (b + j) 0) k j 0 l

-- members with the same lines have as many
pub lines_counted : (w : List ℕ) (i j : ℕ) → work_end ≤ length w → LineFits w i → LineFits w j → lines_held w i ≡ lines_held w j
    → line_total w i ≡ line_total w j
lines_counted w i j h fi fj e =
    let a : ℕ = lines_at + first_move w i in
    let b : ℕ = lines_at + first_move w j in
    omega (
      arith,
      numbers_length w a (a + line_total w i) (omega arith) (omega arith),
      numbers_length w b (b + line_total w j) (omega arith) (omega arith),
      ap length e,
    )

-- the numbers of lines are the same, so the lines are if the numbers are
pub lines_tell : (w : List ℕ) (i j f g k : ℕ) (r : Bool) → f ≡ first_move w i → g ≡ first_move w j → k ≡ line_total w i → k ≡ line_total w j
    → Tells r (numbers_from w (lines_at + f) k ≡ numbers_from w (lines_at + g) k) → Tells r (lines_held w i ≡ lines_held w j)
lines_tell w i j f g k r ef eg ei ej t =
    let a : numbers_from w (lines_at + f) k ≡ lines_held w i = ap₂ (λ (f t : ℕ). numbers_from w (lines_at + f) t) ef ei in
    let b : numbers_from w (lines_at + g) k ≡ lines_held w j = ap₂ (λ (f t : ℕ). numbers_from w (lines_at + f) t) eg ej in
    record { holds = λ h. sym a ∙ t.holds h ∙ b; not_so = λ h e. t.not_so h (a ∙ e ∙ sym b) }

-- the class came from c, so it is a part of c if the lines are the same
pub part_tell : (w : List ℕ) (k c i : ℕ) (r : Bool) → from_in_lem w k ≡ c → Tells r (lines_held w i ≡ lines_held w (chosen_in w k)) → Tells r
    (PartFits w k c i)
part_tell w k c i r e t = record { holds = λ h. (e, t.holds h); not_so = λ h f. t.not_so h f.1 }
