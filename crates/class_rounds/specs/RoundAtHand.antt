-- A round at hand: the set stands in the slice with its present classes, and with the lines of every member in these classes.
use Rattle.std.specs.Prelude.{◌≡◌, refl, ◌↔◌, List, ℕ, suc, ◌+◌, ◌/◌, ◌%◌, ◌<◌, length, get_or}
use Rattle.std.proofs.Common.{sym, ap, ◌∙◌, arith}
use Rattle.round_lines.specs.Tabulate.{tabulate_at}
use Rattle.round_lines.specs.Lists.{Ascends}
use Rattle.dominators.specs.Sheet.{Configuration, Sheet}
use Rattle.dominators.specs.WellFormed.{WellFormed}
use Rattle.dominators.specs.Orders.{configuration_before}
use Rattle.former_classes.specs.SetLayout.{SetHeld}
use Rattle.former_classes.specs.Classes.{class_of}
use Rattle.dominators.specs.RoundLaws.{ClosedList, Sharing}
use Rattle.dominators.specs.ClassesPresent.{Present, present_alike}
use Rattle.dominators.specs.ClassPlaces.{TogetherAt, PresentAt, places_next, places_sharing}
use Rattle.dominators.specs.MemberLines.{lines_of}
use Rattle.dominators.specs.RoundLayout.{held_count_lem, held_at, classes_less}
use Rattle.dominators.specs.KeptMoves.{no_move_lem}
use Rattle.round_lines.specs.SetLinesFound.{MemberLined}
use Rattle.round_steps.specs.ClassedPlaces.{Classed, classed_count}
use Rattle.round_steps.specs.LineTests.{lines_held}
use Rattle.former_classes.specs.WorkLayout.{births_at}
use Rattle.former_classes.specs.ClassLayout.{class_in, classes_in, born_in, from_in_lem}

-- what stands for no member
abbrev pub nobody : Configuration
nobody = no_move_lem.target

-- the members at two places share a class in round r
abbrev pub TogetherHeld : Sheet → List Configuration → ℕ → ℕ → ℕ → Type 0
TogetherHeld sheet set = TogetherAt sheet set nobody

-- the classes in the slice are those of round r
abbrev pub PresentHeld : Sheet → List Configuration → List ℕ → ℕ → ℕ → Type 0
PresentHeld sheet set w count r = Present (λ (i : ℕ). i < length set) (TogetherHeld sheet set) (from_in_lem w) (born_in w) count r (class_in w)

-- they stay where classes and births do
pub present_held_same : (sheet : Sheet) (set : List Configuration) (v w : List ℕ) (count r : ℕ) → PresentHeld sheet set v count r
    → ((c : ℕ) → c < count → get_or w (births_at + c) 0 ≡ get_or v (births_at + c) 0) → ((i : ℕ) → i < length set → class_in w i ≡ class_in v i)
    → PresentHeld sheet set w count r
present_held_same sheet set v w count r P births classes =
    present_alike (λ (i : ℕ). i < length set) (TogetherHeld sheet set) (from_in_lem v) (born_in v) (from_in_lem w) (born_in w) count r (class_in v) (class_in w) P
    (λ c l. ap (λ (x : ℕ). x / 65536) (births c l)) (λ c l. ap (λ (x : ℕ). x % 65536) (births c l)) classes

-- A closed set, in its order, stands in the slice.
pub record SetReady (sheet : Sheet) (set : List Configuration) (w : List ℕ) (n m : ℕ) : Type 0 where
  pub held : SetHeld sheet set w n m
  pub wf : WellFormed sheet
  pub closed : ClosedList sheet set
  pub ascends : Ascends configuration_before set
  pub some : 0 < n

-- as a list of classes
pub present_listed : (sheet : Sheet) (set : List Configuration) (w : List ℕ) (n m count r : ℕ) → SetHeld sheet set w n m
    → PresentHeld sheet set w count r → PresentAt sheet set nobody (from_in_lem w) (born_in w) count r (classes_in w n)
present_listed sheet set w n m count r H P =
    present_alike (λ (i : ℕ). i < length set) (TogetherHeld sheet set) (from_in_lem w) (born_in w) (from_in_lem w) (born_in w) count r
    (class_in w) (λ i. get_or (classes_in w n) i 0) P (λ c l. refl) (λ c l. refl)
    (λ i l. tabulate_at (class_in w) n i 0 (omega (arith, held_count_lem sheet set w n m H)))

-- they are a round
pub present_round : (sheet : Sheet) (set : List Configuration) (w : List ℕ) (n m count r : ℕ) (R : SetReady sheet set w n m)
    → PresentHeld sheet set w count r → Sharing sheet R.wf set R.closed (classes_in w n) r
present_round sheet set w n m count r R P =
    places_sharing sheet set nobody R.wf (from_in_lem w) (born_in w) count r (classes_in w n)
    (present_listed sheet set w n m count r R.held P) R.closed

pub record Stage (sheet : Sheet) (set : List Configuration) (v : List ℕ) (n m r old : ℕ) : Type 0 where
  pub ready : SetReady sheet set v n m
  pub present : PresentHeld sheet set v old r
  pub classed : Classed v n old
  pub lined : (i : ℕ) → i < n → MemberLined sheet set (classes_in v n) v i

module _ {sheet : Sheet} {set : List Configuration} {v : List ℕ} {n m r old : ℕ} (S : Stage sheet set v n m r old) where
  pub stage_count : length set ≡ n
  stage_count = held_count_lem sheet set v n m S.ready.held

  few : (x : Configuration) → class_of set (classes_in v n) x < 65536
  few =
      classes_less sheet set v n m S.ready.held 65536 (omega arith)
      (λ i l. omega (arith, S.classed.known i l, classed_count S.classed, S.ready.held.few.0))

  listed : (i : ℕ) → i < n → get_or (classes_in v n) i 0 ≡ class_in v i
  listed i l = tabulate_at (class_in v) n i 0 l

  lines_are : (i : ℕ) → i < n → lines_held v i ≡ lines_of sheet set (classes_in v n) (get_or set i nobody)
  lines_are i l =
      (S.lined i l).lines
      ∙ ap (lines_of sheet set (classes_in v n)) (sym (held_at sheet set v n m S.ready.held i nobody l))

  -- the next round has together those of one class and with the same lines
  pub stage_next : (i j : ℕ) → i < n → j < n
      → ((class_in v i ≡ class_in v j) × (lines_held v i ≡ lines_held v j)) ↔ TogetherHeld sheet set (suc r) i j
  stage_next i j li lj =
      let h = places_next sheet set nobody S.ready.wf (from_in_lem v) (born_in v) old r (classes_in v n)
      (present_listed sheet set v n m old r S.ready.held S.present) S.ready.closed few i j
      (omega (arith, stage_count)) (omega (arith, stage_count)) in (
        (λ x. h.0 (listed i li ∙ x.0 ∙ sym (listed j lj), sym (lines_are i li) ∙ x.1 ∙ lines_are j lj)),
        (λ t. let y = h.1 t in (sym (listed i li) ∙ y.0 ∙ listed j lj, lines_are i li ∙ y.1 ∙ sym (lines_are j lj))),
      )
