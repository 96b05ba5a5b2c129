-- The lines of a member: label and class of the target, packed, of each irredundant move, ascending, each once. Two members
-- of one class stay together exactly when their lines are equal. For any class numbers that are round n.
use Rattle.std.specs.Prelude.{◌≡◌, ◌↔◌, true, false, ℕ, suc, ◌+◌, ◌*◌, ◌<◌}
use Rattle.std.proofs.Common.{sym, ap, ◌∙◌, subst, arith}
use Rattle.std.proofs.Math.Bool.{not}
use mathlib.Core.List.{List, map, Memᴰ}
use borrow.Author.Tests.{eqb-true, eq-eqb, not-true}
use Rattle.work_layout.specs.TestLaws.{true_false, not_passes}
use Rattle.comparison_laws.specs.Lists.{select, Ascends, arrange}
use Rattle.comparison_laws.specs.Members.{mem_select, select_mem, mem_map, map_mem}
use Rattle.comparison_laws.specs.AscendingLaws.{arrange_ascends, arrange_keeps, arrange_only, ascends_unique, number_order}
use Rattle.comparison_laws.specs.Sheet.{Configuration, Sheet}
use Rattle.comparison_laws.specs.WellFormed.{WellFormed}
use Rattle.comparison_laws.specs.Orders.{Move}
use Rattle.comparison_laws.specs.Moves.{moves}
use Rattle.comparison_laws.specs.Refinement.{Redundant, Round}
use Rattle.comparison_laws.specs.RoundLevels.{class_lines_same, round_sym}
use Rattle.comparison_laws.specs.Classes.{class_of, share}
use Rattle.comparison_laws.specs.Rounds.{redundant, together}
use Rattle.comparison_laws.specs.SheetTransitions.{transitions}
use Rattle.comparison_laws.specs.SheetMoves.{lawful}
use Rattle.comparison_laws.specs.RoundLaws.{ClosedList, Sharing, redundant_no, redundant_test, together_yes, together_test}
use Rattle.kept_classes.specs.RoundLines.{LinesIn, round_lines}

-- a label and a class in one number
abbrev pub packed_line : ℕ → ℕ → ℕ
packed_line label class = label * 65536 + class

pub packed_label : (a b c d : ℕ) → c < 65536 → d < 65536 → packed_line a c ≡ packed_line b d → a ≡ b
packed_label a b c d lc ld e = omega arith

pub packed_class : (a b c d : ℕ) → c < 65536 → d < 65536 → packed_line a c ≡ packed_line b d → c ≡ d
packed_class a b c d lc ld e = omega arith

module _ (sheet : Sheet) (set : List Configuration) (numbers : List ℕ) where
  -- the line of a move
  abbrev pub line_of : Move → ℕ
  line_of m = packed_line m.label (class_of set numbers m.target)

  abbrev pub irredundants : Configuration → List Move
  irredundants p = select (λ m. not (redundant sheet set numbers p m)) (moves sheet p)

  unfoldable pub lines_of : Configuration → List ℕ
  lines_of p = arrange number_order.before (map line_of (irredundants p))

  pub lines_ascend : (p : Configuration) → Ascends number_order.before (lines_of p)
  unfolding lines_of
  lines_ascend p = arrange_ascends number_order (map line_of (irredundants p))

  -- the line of an irredundant move is there
  pub line_in : (p : Configuration) (m : Move) → Memᴰ m (moves sheet p) → redundant sheet set numbers p m ≡ false
      → Memᴰ (line_of m) (lines_of p)
  unfolding lines_of
  line_in p m i r =
      arrange_keeps number_order (map line_of (irredundants p))
      (map_mem line_of (select_mem (λ m. not (redundant sheet set numbers p m)) (moves sheet p) i (not_passes r)))

  -- and nothing else
  pub line_only : (p : Configuration) (l : ℕ) → Memᴰ l (lines_of p)
      → (m : Move) × Memᴰ m (moves sheet p) × (redundant sheet set numbers p m ≡ false) × (l ≡ line_of m)
  unfolding lines_of
  line_only p l i =
      let x = mem_map line_of (irredundants p) (arrange_only number_order (map line_of (irredundants p)) i) in
      let y = mem_select (λ m. not (redundant sheet set numbers p m)) (moves sheet p) x.1 in
      (x.0, y.0, not-true (redundant sheet set numbers p x.0) y.1, x.2)

  module _ (wf : WellFormed sheet) (closed : ClosedList sheet set) (n : ℕ) (sh : Sharing sheet wf set closed numbers n)
      (few : (p : Configuration) → class_of set numbers p < 65536) where
    -- every line of p is one of q's
    lines_within : (p q : Configuration) → Memᴰ p set → Memᴰ q set → Round (transitions sheet) (suc n) p q
        → (l : ℕ) → Memᴰ l (lines_of p) → Memᴰ l (lines_of q)
    lines_within p q mp mq h l i =
        let x = line_only p l i in
        let m : Move = x.0 in
        let y = class_lines_same (transitions sheet) (lawful sheet wf) n p q h m.label m.target x.1
        (λ r. true_false (redundant sheet set numbers p m) (redundant_test sheet wf set closed numbers n sh p m mp x.1 r) x.2) in
        let k : Move = record { label = m.label; target = y.0 } in
        let s : class_of set numbers m.target ≡ class_of set numbers y.0 =
        eqb-true (class_of set numbers m.target) (class_of set numbers y.0)
        (sh.from_round m.target y.0 (closed.targets p m mp x.1) (closed.targets q k mq y.1) y.2) in
        subst (λ (v : ℕ). Memᴰ v (lines_of q)) (ap (packed_line m.label) (sym s) ∙ sym x.3)
        (line_in q k y.1 (redundant_no sheet wf set closed numbers n sh q k mq y.1 y.3))

    lines_back : (p q : Configuration) → Memᴰ p set → Memᴰ q set → lines_of p ≡ lines_of q
        → LinesIn (transitions sheet) (Round (transitions sheet) n) p q
    lines_back p q mp mq e b t i f =
        let m : Move = record { label = b; target = t } in
        let r : redundant sheet set numbers p m ≡ false = redundant_no sheet wf set closed numbers n sh p m mp i f in
        let x = line_only q (line_of m) (subst (λ (l : List ℕ). Memᴰ (line_of m) l) e (line_in p m i r)) in
        let k : Move = x.0 in
        let lb : b ≡ k.label = packed_label b k.label (class_of set numbers t) (class_of set numbers k.target) (few t) (few
        k.target) x.3 in
        let cl : class_of set numbers t ≡ class_of set numbers k.target =
        packed_class b k.label (class_of set numbers t) (class_of set numbers k.target) (few t) (few k.target) x.3 in (
          k.target,
          subst (λ (v : ℕ). Memᴰ (record { label = v; target = k.target }) (moves sheet q)) (sym lb) x.1,
          sh.to_round t k.target (closed.targets p m mp i) (closed.targets q k mq x.1)
              (eq-eqb (class_of set numbers t) (class_of set numbers k.target) cl),
          λ y. true_false (redundant sheet set numbers q k)
              (redundant_test sheet wf set closed numbers n sh q k mq x.1
              (subst (λ (v : ℕ). Redundant (transitions sheet) (Round (transitions sheet) n) q v k.target) lb y)) x.2,
        )

    -- two members of one class stay together exactly when their lines are equal
    pub lines_round : (p q : Configuration) → Memᴰ p set → Memᴰ q set → share set numbers p q ≡ true
        → (lines_of p ≡ lines_of q) ↔ Round (transitions sheet) (suc n) p q
    lines_round p q mp mq s = (
      (λ e. (round_lines (transitions sheet) (lawful sheet wf) n p q).1
          (sh.to_round p q mp mq s, lines_back p q mp mq e, lines_back q p mq mp (sym e))),
      (λ h. ascends_unique number_order (lines_of p) (lines_of q) (lines_ascend p) (lines_ascend q)
          (lines_within p q mp mq h) (lines_within q p mq mp (round_sym (transitions sheet) (lawful sheet wf) (suc n) p q h))),
    )

    pub lines_together : (p q : Configuration) → Memᴰ p set → Memᴰ q set → share set numbers p q ≡ true
        → (lines_of p ≡ lines_of q) ↔ (together sheet set numbers p q ≡ true)
    lines_together p q mp mq s = (
      (λ e. together_test sheet wf set closed numbers n sh p q mp mq ((lines_round p q mp mq s).0 e)),
      (λ h. (lines_round p q mp mq s).1 (together_yes sheet wf set closed numbers n sh p q mp mq h)),
    )
