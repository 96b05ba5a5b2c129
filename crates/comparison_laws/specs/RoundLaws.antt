-- The class numbers of round n are round n: two members of a set that is closed under what its members bring share a number
-- exactly when round n has them together.
use Rattle.std.specs.Prelude.{◌≡◌, refl, ◌↔◌, Bool, true, false, ◌&&◌, ◌||◌, eqb}
use Rattle.std.proofs.Common.{sym, ◌∙◌, subst}
use mathlib.Core.List.{List, Memᴰ}
use Prim.Native.Nat.{ℕ, zero, suc}
use borrow.Author.Tests.{eqb-true, eq-eqb}
use Rattle.move_laws.specs.TestLaws.{true_false, and_left, and_right, and_intro, or_left, or_right, Tested, tested, passes, fails}
use Rattle.move_laws.specs.Members.{any_yes, any_mem, all_yes, all_of}
use Rattle.move_laws.specs.Stores.{strictly_below}
use Rattle.move_laws.specs.StoreLaws.{below_within, within_below}
use Rattle.move_laws.specs.Sheet.{Configuration, Sheet}
use Rattle.move_laws.specs.WellFormed.{WellFormed}
use Rattle.move_laws.specs.Orders.{Move}
use Rattle.move_laws.specs.Moves.{moves, add}
use Rattle.comparison.specs.Classes.{share}
use Rattle.comparison.specs.Rounds.{stores_equal, redundant, answers, answered, together, refined, classes}
use Rattle.comparison.specs.Refinement.{Redundant, Answered, Round}
use Rattle.refinement_laws.specs.RoundLevels.{round_refl, round_sym, round_trans}
use Rattle.comparison.specs.SheetTransitions.{transitions}
use Rattle.comparison_laws.specs.SheetMoves.{lawful}
use Rattle.comparison_laws.specs.ClassLaws.{Equivalence, share_test, test_share}

-- the list has what its members bring into the set
pub record ClosedList (sheet : Sheet) (set : List Configuration) : Type 0 where
  pub targets : (p : Configuration) (m : Move) → Memᴰ p set → Memᴰ m (moves sheet p) → Memᴰ m.target set
  pub addeds : (p : Configuration) (k m : Move) → Memᴰ p set → Memᴰ k (moves sheet p) → Memᴰ m (moves sheet p)
      → strictly_below k.label m.label ≡ true → Memᴰ (add sheet m.label k.target) set

-- a move as its label and target
abbrev pub labelled : ℕ → Configuration → Move
labelled b t = record { label = b; target = t }

module _ (sheet : Sheet) (wf : WellFormed sheet) (set : List Configuration) (closed : ClosedList sheet set) where
  -- these class numbers are round n
  pub record Sharing (numbers : List ℕ) (n : ℕ) : Type 0 where
    pub to_round : (p q : Configuration) → Memᴰ p set → Memᴰ q set → share set numbers p q ≡ true → Round (transitions sheet) n p q
    pub from_round : (p q : Configuration) → Memᴰ p set → Memᴰ q set → Round (transitions sheet) n p q → share set numbers p q ≡ true

  module _ (numbers : List ℕ) (n : ℕ) (sh : Sharing numbers n) where
    pub redundant_yes : (p : Configuration) (m : Move) → Memᴰ p set → Memᴰ m (moves sheet p)
        → redundant sheet set numbers p m ≡ true → Redundant (transitions sheet) (Round (transitions sheet) n) p m.label m.target
    redundant_yes p m mp mm h =
        let x = any_yes (λ k. strictly_below k.label m.label && share set numbers m.target (add sheet m.label k.target)) (moves sheet p) h in
        let k : Move = x.0 in
        let b : strictly_below k.label m.label ≡ true = and_left (strictly_below k.label m.label) (share set numbers m.target (add sheet m.label k.target)) x.2 in (
          k.label,
          k.target,
          x.1,
          below_within k.label m.label b,
          sh.to_round m.target (add sheet m.label k.target) (closed.targets p m mp mm) (closed.addeds p k m mp x.1 mm b)
              (and_right (strictly_below k.label m.label) (share set numbers m.target (add sheet m.label k.target)) x.2),
        )

    pub redundant_test : (p : Configuration) (m : Move) → Memᴰ p set → Memᴰ m (moves sheet p)
        → Redundant (transitions sheet) (Round (transitions sheet) n) p m.label m.target → redundant sheet set numbers p m ≡ true
    redundant_test p m mp mm r =
        let k : Move = record { label = r.0; target = r.1 } in
        let b : strictly_below r.0 m.label ≡ true = within_below r.3.0 r.3.1 in
        any_mem (λ k. strictly_below k.label m.label && share set numbers m.target (add sheet m.label k.target)) (moves sheet p) {a = k} r.2
        (and_intro b
        (sh.from_round m.target (add sheet m.label r.1) (closed.targets p m mp mm) (closed.addeds p k m mp r.2 mm b) r.4))

    -- a move that is not redundant is not found so
    pub redundant_no : (p : Configuration) (m : Move) → Memᴰ p set → Memᴰ m (moves sheet p)
        → (Redundant (transitions sheet) (Round (transitions sheet) n) p m.label m.target → ⊥) → redundant sheet set numbers p m ≡ false
    redundant_no p m mp mm f = go (tested (redundant sheet set numbers p m))
      where
        go : Tested (redundant sheet set numbers p m) → redundant sheet set numbers p m ≡ false
        go (passes y) = absurd (f (redundant_yes p m mp mm y))
        go (fails y) = y

    pub answered_yes : (p q : Configuration) → Memᴰ p set → Memᴰ q set
        → answered sheet set numbers p q ≡ true → Answered (transitions sheet) (Round (transitions sheet) n) p q
    answered_yes p q mp mq h b t i r =
        let e = all_yes (λ m. redundant sheet set numbers p m || answers sheet set numbers q m) (moves sheet p) h {a = labelled b t} i in
        let x = any_yes (λ k. eqb k.label b && share set numbers t k.target) (moves sheet q)
        (subst (λ (z : Bool). (z || answers sheet set numbers q (labelled b t)) ≡ true) (redundant_no p (labelled b t) mp i r) e) in
        let k : Move = x.0 in
        let l : k.label ≡ b = eqb-true k.label b (and_left (eqb k.label b) (share set numbers t k.target) x.2) in (
          k.target,
          subst (λ (z : ℕ). Memᴰ (record { label = z; target = k.target }) (moves sheet q)) l x.1,
          sh.to_round t k.target (closed.targets p (labelled b t) mp i) (closed.targets q k mq x.1)
              (and_right (eqb k.label b) (share set numbers t k.target) x.2),
        )

    pub answered_test : (p q : Configuration) → Memᴰ p set → Memᴰ q set
        → Answered (transitions sheet) (Round (transitions sheet) n) p q → answered sheet set numbers p q ≡ true
    answered_test p q mp mq h =
        all_of (λ m. redundant sheet set numbers p m || answers sheet set numbers q m) (moves sheet p) (λ m i. go m i (tested (redundant sheet set numbers p m)))
      where
        go : (m : Move) → Memᴰ m (moves sheet p) → Tested (redundant sheet set numbers p m) → (redundant sheet set numbers p m || answers sheet set numbers q m) ≡ true
        go m i (passes y) = or_left (answers sheet set numbers q m) y
        go m i (fails y) =
            let x = h m.label m.target i (λ r. true_false (redundant sheet set numbers p m) (redundant_test p m mp i r) y) in
            let k : Move = record { label = m.label; target = x.0 } in
            or_right (redundant sheet set numbers p m)
            (any_mem (λ k. eqb k.label m.label && share set numbers m.target k.target) (moves sheet q) {a = k} x.1
            (and_intro (eq-eqb m.label m.label refl) (sh.from_round m.target x.0 (closed.targets p m mp i) (closed.targets q k mq x.1) x.2)))

    -- the test of the next round is the next round
    pub together_yes : (p q : Configuration) → Memᴰ p set → Memᴰ q set → together sheet set numbers p q ≡ true → Round (transitions sheet) (suc n) p q
    together_yes p q mp mq h =
        let s : Bool = share set numbers p q in
        let a : Bool = answered sheet set numbers p q in
        let b : Bool = answered sheet set numbers q p in (
          sh.to_round p q mp mq (and_left s (a && b) h),
          answered_yes p q mp mq (and_left a b (and_right s (a && b) h)),
          answered_yes q p mq mp (and_right a b (and_right s (a && b) h)),
        )

    pub together_test : (p q : Configuration) → Memᴰ p set → Memᴰ q set → Round (transitions sheet) (suc n) p q → together sheet set numbers p q ≡ true
    together_test p q mp mq h =
        and_intro (sh.from_round p q mp mq h.0) (and_intro (answered_test p q mp mq h.1) (answered_test q p mq mp h.2))

    pub together_equivalence : Equivalence set (together sheet set numbers)
    together_equivalence = record {
      reflexive = λ p m. together_test p p m m (round_refl (transitions sheet) (lawful sheet wf) (suc n) p);
      symmetric = λ p q mp mq h. together_test q p mq mp (round_sym (transitions sheet) (lawful sheet wf) (suc n) p q (together_yes p q mp mq h));
      transitive = λ p q r mp mq mr h k.
          together_test p r mp mr (round_trans (transitions sheet) (lawful sheet wf) (suc n) p q r (together_yes p q mp mq h) (together_yes q r mq mr k));
    }

    pub sharing_next : Sharing (refined sheet set numbers) (suc n)
    unfolding refined
    sharing_next = record {
      to_round = λ p q mp mq h. together_yes p q mp mq (share_test set (together sheet set numbers) together_equivalence p q mp mq h);
      from_round = λ p q mp mq h. test_share set (together sheet set numbers) together_equivalence p q mp mq (together_test p q mp mq h);
    }

  pub stores_equivalence : Equivalence set (stores_equal sheet set)
  stores_equivalence = record {
    reflexive = λ p m. eq-eqb p.store p.store refl;
    symmetric = λ p q mp mq h. eq-eqb q.store p.store (sym (eqb-true p.store q.store h));
    transitive = λ p q r mp mq mr h k. eq-eqb p.store r.store (eqb-true p.store q.store h ∙ eqb-true q.store r.store k);
  }

  -- the class numbers of round n are round n
  pub sharing : (n : ℕ) → Sharing (classes sheet set n) n
  unfolding classes
  sharing zero = record {
    to_round = λ p q mp mq h. eqb-true p.store q.store (share_test set (stores_equal sheet set) stores_equivalence p q mp mq h);
    from_round = λ p q mp mq h. test_share set (stores_equal sheet set) stores_equivalence p q mp mq (eq-eqb p.store q.store h);
  }
  sharing (suc n) = sharing_next (classes sheet set n) n (sharing n)

  pub share_round : (n : ℕ) (p q : Configuration) → Memᴰ p set → Memᴰ q set
      → (share set (classes sheet set n) p q ≡ true) ↔ Round (transitions sheet) n p q
  share_round n p q mp mq = ((sharing n).to_round p q mp mq, (sharing n).from_round p q mp mq)
