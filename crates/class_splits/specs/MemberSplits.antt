-- One member in the next round: it keeps its class, joins a part of it that was born in this round, or begins a new part.
use Rattle.std.specs.Prelude.{◌≡◌, refl, Bool, true, false, List, ℕ, ◌+◌, ◌*◌, ◌≤◌, ◌<◌, length, set}
use Rattle.std.proofs.Common.{sym, ap, ap₂, ◌∙◌, arith}
use Rattle.work_layout.specs.PlacesPassed.{FirstPlace}
use Rattle.work_layout.specs.SetLayout.{first_move}
use Rattle.round_lines.specs.MemberLinesFound.{line_total}
use Rattle.class_splits.specs.ClassedPlaces.{Tells, chosen_in, Classed, classed_count, classed_spare}
use Rattle.class_splits.specs.LineTests.{lines_held, LineFits, PartFits}
use Rattle.work_layout.specs.WorkLayout.{work_end, classes_at, births_at, chosen_at, member_room, move_room}
use Rattle.work_layout.specs.ClassLayout.{class_in}

-- the first part of class c, among those from `old` on, that has the lines of the member at place i; count where there is none
abbrev pub PartFound : List ℕ → ℕ → ℕ → ℕ → ℕ → ℕ → Type 0
PartFound w c i old count r = FirstPlace (λ k. PartFits w k c i → ⊥) (λ k. PartFits w k c i) old count r

-- what giving the member at place i its class needs
pub record MemberReady (w : List ℕ) (i old count : ℕ) : Type 0 where
  pub n : ℕ
  pub inside : i < n
  pub few : n ≤ member_room
  pub long : work_end ≤ length w
  pub more : old ≤ count
  pub classed : Classed w n count
  pub lines : (j : ℕ) → j < n → first_move w j + line_total w j ≤ move_room

module _ {w : List ℕ} {i old count : ℕ} (R : MemberReady w i old count) where
  pub ready_class : class_in w i < count
  ready_class = R.classed.known i R.inside

  pub ready_count : count ≤ member_room
  ready_count = omega (arith, classed_count R.classed, R.few)

  pub ready_lines : (c : ℕ) → c < count → LineFits w (chosen_in w c)
  ready_lines c l =
      let h : chosen_in w c < R.n = R.classed.chosen_in_lem c l in
      (omega (arith, R.few), R.lines (chosen_in w c) h)

  pub ready_own : LineFits w i
  ready_own = (omega (arith, R.few, R.inside), R.lines i R.inside)

  -- a member without the lines of its class's chosen one is not that one, so there is room for a class
  pub ready_other : (lines_held w i ≡ lines_held w (chosen_in w (class_in w i)) → ⊥) → chosen_in w (class_in w i) ≡ i → ⊥
  ready_other d e = d (ap (lines_held w) (sym e))

  pub ready_room : (lines_held w i ≡ lines_held w (chosen_in w (class_in w i)) → ⊥) → count < member_room
  ready_room d = omega (arith, classed_spare R.classed i R.inside (ready_other d), R.few)

-- what is stored for it
pub data MemberSplit (w : List ℕ) (round i old count : ℕ) (v : List ℕ) (r : ℕ) : Type 0 where
  keeps : lines_held w i ≡ lines_held w (chosen_in w (class_in w i)) → v ≡ w → r ≡ count → MemberSplit w round i old count v r
  joins : (lines_held w i ≡ lines_held w (chosen_in w (class_in w i)) → ⊥) → (k : ℕ) → old ≤ k → k < count → PartFits w k (class_in w i) i
      → v ≡ set w (classes_at + i) k → r ≡ count → MemberSplit w round i old count v r
  begins : (lines_held w i ≡ lines_held w (chosen_in w (class_in w i)) → ⊥) → ((k : ℕ) → old ≤ k → k < count → PartFits w k (class_in w i) i → ⊥)
      → v ≡ set (set (set w (classes_at + i) count) (births_at + count) (class_in w i * 65536 + round)) (chosen_at + count) i
      → r ≡ count + 1 → MemberSplit w round i old count v r

-- the same, with the class c of the member as it was read, the answer t on the lines, and the part k that was found
module _ (w : List ℕ) (round i old count c : ℕ) (is : c ≡ class_in w i) (t : Bool)
    (T : Tells t (lines_held w i ≡ lines_held w (chosen_in w c))) where
  to_first : lines_held w (chosen_in w c) ≡ lines_held w (chosen_in w (class_in w i))
  to_first = ap (λ (z : ℕ). lines_held w (chosen_in w z)) is

  differs : t ≡ false → lines_held w i ≡ lines_held w (chosen_in w (class_in w i)) → ⊥
  differs h e = T.not_so h (e ∙ sym to_first)

  pub read_room : MemberReady w i old count → t ≡ false → count < member_room
  read_room R h = ready_room R (differs h)

  pub split_keeps : t ≡ true → MemberSplit w round i old count w count
  split_keeps h = keeps (T.holds h ∙ to_first) refl refl

  module _ (h : t ≡ false) (k : ℕ) (F : PartFound w c i old count k) where
    pub split_joins : k < count → MemberSplit w round i old count (set w (classes_at + i) k) count
    split_joins l =
        let x = F.here l in
        joins (differs h) k F.within.0 l (x.0 ∙ is, x.1) refl refl

    pub split_begins : count ≤ k → (v : List ℕ)
        → v ≡ set (set (set w (classes_at + i) k) (births_at + count) (c * 65536 + round)) (chosen_at + count) i
        → MemberSplit w round i old count v (count + 1)
    split_begins l v e =
        let ek : k ≡ count = omega (arith, F.within.1) in
        begins (differs h) (λ p a b f. F.passed p a (omega (arith, F.within)) (f.0 ∙ sym is, f.1))
        (e ∙ ap₂ (λ (x y : ℕ). set (set (set w (classes_at + i) x) (births_at + count) (y * 65536 + round)) (chosen_at + count) i) ek is) refl
