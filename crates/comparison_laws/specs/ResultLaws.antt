-- The rounds up to the result's: the list has the classes of each round, the last is the first one equal to its successor, and
-- there are no more rounds than members.
use Rattle.std.specs.Prelude.{◌≡◌, ◌⊎◌, Bool, get_or}
use Rattle.std.proofs.Math.Path.{refl, sym, subst}
use Rattle.std.proofs.Common.{ap, ◌∙◌, arith, eqb-true, eq-eqb}
use Rattle.std.proofs.Math.Logic.{inl, inr, ⊎_elim}
use Rattle.std.proofs.Math.Bool.{true, false}
use mathlib.Core.List.{List, [], ◌∷◌, Memᴰ}
use Prim.Native.Nat.{ℕ, zero, suc, ◌+◌, ◌-◌, ◌≤◌, ◌<◌}
use Rattle.std.proofs.Math.ListN.{length}
use Rattle.move_laws.specs.TestLaws.{true_false, same_test}
use Rattle.move_laws.specs.Lists.{same_numbers}
use Rattle.move_laws.specs.Members.{same_equal, equal_same}
use Rattle.move_laws.specs.Sheet.{Configuration, Sheet}
use Rattle.move_laws.specs.WellFormed.{WellFormed}
use Rattle.comparison.specs.Classes.{numbered}
use Rattle.comparison.specs.Rounds.{stores_equal, together, refined, classes, rounds_from, rounds, result_of}
use Rattle.comparison.specs.Refinement.{Round}
use Rattle.comparison.specs.SheetTransitions.{transitions}
use Rattle.comparison_laws.specs.ClassLaws.{Equivalence, numbered_same, numbered_by_first, numbered_length}
use Rattle.comparison.specs.Promise.{NumberedByFirst}
use Rattle.comparison_laws.specs.RoundLaws.{ClosedList, sharing, stores_equivalence, together_yes, together_test, together_equivalence}
use Rattle.comparison_laws.specs.CountLaws.{class_count, class_count_some, class_count_few, same_or_more}

module _ (sheet : Sheet) (set : List Configuration) where
  -- the test whose numbers are the classes of round n
  abbrev test_of : ℕ → Configuration → Configuration → Bool
  test_of zero = stores_equal sheet set
  test_of (suc n) = together sheet set (classes sheet set n)

  classes_numbered : (n : ℕ) → classes sheet set n ≡ numbered (test_of n) set
  unfolding classes refined
  classes_numbered zero = refl
  classes_numbered (suc n) = refl

  -- the classes of every round are numbered by first member
  pub classes_by_first : (n : ℕ) → NumberedByFirst (classes sheet set n)
  classes_by_first n = subst NumberedByFirst (sym (classes_numbered n)) (numbered_by_first (test_of n) set)

  pub classes_next : (n : ℕ) → classes sheet set (suc n) ≡ refined sheet set (classes sheet set n)
  unfolding classes
  classes_next n = refl

  -- from a round that is equal to its successor on, all rounds are
  pub classes_from : (n : ℕ) → classes sheet set (suc n) ≡ classes sheet set n → (k : ℕ) → n ≤ k → classes sheet set k ≡ classes sheet set n
  classes_from n e k l = let s : k ≡ (k - n) + n = omega (arith, l) in ap (classes sheet set) s ∙ further (k - n)
    where
      further : (d : ℕ) → classes sheet set (d + n) ≡ classes sheet set n
      further zero = let s : 0 + n ≡ n = omega arith in ap (classes sheet set) s
      further (suc d) =
          let s : suc d + n ≡ suc (d + n) = omega arith in
          ap (classes sheet set) s ∙ classes_next (d + n) ∙ ap (refined sheet set) (further d) ∙ sym (classes_next n) ∙ e

  -- how many classes round n has
  pub count : ℕ → ℕ
  count n = class_count (test_of n) set

  pub count_few : (n : ℕ) → count n ≤ length set
  unfolding count
  count_few n = class_count_few (test_of n) set

  count_some : 1 ≤ length set → 1 ≤ count 0
  unfolding count
  count_some l = positive set l
    where
      positive : (ps : List Configuration) → 1 ≤ length ps → 1 ≤ class_count (stores_equal sheet set) ps
      positive [] l = absurd (omega arith)
      positive (p ∷ ps) l = class_count_some (stores_equal sheet set) p ps

  module _ (wf : WellFormed sheet) (closed : ClosedList sheet set) where
    test_equivalence : (n : ℕ) → Equivalence set (test_of n)
    test_equivalence zero = stores_equivalence sheet wf set closed
    test_equivalence (suc n) = together_equivalence sheet wf set closed (classes sheet set n) n (sharing sheet wf set closed n)

    test_round : (n : ℕ) (p q : Configuration) → Memᴰ p set → Memᴰ q set → test_of n p q ≡ true → Round (transitions sheet) n p q
    test_round zero p q mp mq h = eqb-true p.store q.store h
    test_round (suc n) p q mp mq h = together_yes sheet wf set closed (classes sheet set n) n (sharing sheet wf set closed n) p q mp mq h

    round_test : (n : ℕ) (p q : Configuration) → Memᴰ p set → Memᴰ q set → Round (transitions sheet) n p q → test_of n p q ≡ true
    round_test zero p q mp mq h = eq-eqb p.store q.store h
    round_test (suc n) p q mp mq h = together_test sheet wf set closed (classes sheet set n) n (sharing sheet wf set closed n) p q mp mq h

    -- a round is equal to its successor, or its successor has more classes
    pub equal_or_more : (n : ℕ) → (classes sheet set (suc n) ≡ classes sheet set n) ⊎ (count n < count (suc n))
    unfolding count
    equal_or_more n =
        ⊎_elim
        (λ (e : numbered (test_of (suc n)) set ≡ numbered (test_of n) set). inl (classes_numbered (suc n) ∙ e ∙ sym (classes_numbered n)))
        (λ (l : class_count (test_of n) set < class_count (test_of (suc n)) set). inr l)
        (same_or_more (λ (p : Configuration). Memᴰ p set) (test_of (suc n)) (test_of n)
        (λ p q mp mq h. round_test n p q mp mq (test_round (suc n) p q mp mq h).0)
        (test_equivalence n).reflexive (test_equivalence n).symmetric (test_equivalence n).transitive
        set (λ p m. m))

    -- a round that splits no member is equal to its successor
    pub stable_classes : (n : ℕ)
        → ((p q : Configuration) → Memᴰ p set → Memᴰ q set → Round (transitions sheet) n p q → Round (transitions sheet) (suc n) p q)
        → classes sheet set (suc n) ≡ classes sheet set n
    stable_classes n st =
        classes_numbered (suc n)
        ∙ numbered_same (test_of (suc n)) (test_of n) set
        (λ p q mp mq. same_test (test_of (suc n) p q) (test_of n p q)
        (λ h. round_test n p q mp mq (test_round (suc n) p q mp mq h).0)
        (λ h. round_test (suc n) p q mp mq (st p q mp mq (test_round n p q mp mq h))))
        ∙ sym (classes_numbered n)

    -- ---- the list of rounds from round n on
    pub record RoundsFrom (n : ℕ) (rs : List (List ℕ)) : Type 0 where
      pub some : 1 ≤ length rs
      pub at : (k : ℕ) → k < length rs → get_or rs k [] ≡ classes sheet set (n + k)
      -- every round but the last differs from its successor, and has fewer classes
      pub splits : (k : ℕ) → suc k < length rs → classes sheet set (suc (n + k)) ≡ classes sheet set (n + k) → ⊥
      pub grows : (k : ℕ) → k < length rs → count n + k ≤ count (n + k)
      -- the last is equal to its successor
      pub last : (k : ℕ) → suc k ≡ length rs → classes sheet set (suc (n + k)) ≡ classes sheet set (n + k)

    rounds_stop : (n : ℕ) → classes sheet set (suc n) ≡ classes sheet set n → RoundsFrom n (classes sheet set n ∷ [])
    rounds_stop n e = record {
      some = omega arith;
      at = λ k l. let z : k ≡ 0 = omega arith in let s : n ≡ n + k = omega arith in ap (λ (i : ℕ). get_or (classes sheet set n ∷ []) i []) z ∙ ap (classes sheet set) s;
      splits = λ k l q. absurd (omega arith);
      grows = λ k l. let s : n ≡ n + k = omega arith in subst (λ (i : ℕ). count n + k ≤ count i) s (omega arith);
      last = λ k l. let s : n ≡ n + k = omega arith in subst (λ (i : ℕ). classes sheet set (suc i) ≡ classes sheet set i) s e;
    }

    rounds_more : (n : ℕ) (rs : List (List ℕ)) → (classes sheet set (suc n) ≡ classes sheet set n → ⊥) → count n < count (suc n)
        → RoundsFrom (suc n) rs → RoundsFrom n (classes sheet set n ∷ rs)
    rounds_more n rs ne more r = record {
      some = omega arith;
      at = λ k. at k;
      splits = λ k. splits k;
      grows = λ k. grows k;
      last = λ k. last k;
    }
      where
        shift : (k : ℕ) → suc n + k ≡ n + suc k
        shift k = omega arith

        at : (k : ℕ) → k < suc (length rs) → get_or (classes sheet set n ∷ rs) k [] ≡ classes sheet set (n + k)
        at zero l = let s : n ≡ n + 0 = omega arith in ap (classes sheet set) s
        at (suc k) l = r.at k (omega arith) ∙ ap (classes sheet set) (shift k)

        splits : (k : ℕ) → suc k < suc (length rs) → classes sheet set (suc (n + k)) ≡ classes sheet set (n + k) → ⊥
        splits zero l = let s : n ≡ n + 0 = omega arith in subst (λ (i : ℕ). classes sheet set (suc i) ≡ classes sheet set i → ⊥) s ne
        splits (suc k) l = subst (λ (i : ℕ). classes sheet set (suc i) ≡ classes sheet set i → ⊥) (shift k) (r.splits k (omega arith))

        grows : (k : ℕ) → k < suc (length rs) → count n + k ≤ count (n + k)
        grows zero l = let s : n ≡ n + 0 = omega arith in subst (λ (i : ℕ). count n + 0 ≤ count i) s (omega arith)
        grows (suc k) l = subst (λ (i : ℕ). count n + suc k ≤ count i) (shift k) (omega (arith, r.grows k (omega arith)))

        last : (k : ℕ) → suc k ≡ suc (length rs) → classes sheet set (suc (n + k)) ≡ classes sheet set (n + k)
        last zero l = absurd (omega (arith, r.some))
        last (suc k) l = subst (λ (i : ℕ). classes sheet set (suc i) ≡ classes sheet set i) (shift k) (r.last k (omega arith))

    rounds_from_lem : (f n : ℕ) → length set < count n + f → RoundsFrom n (rounds_from sheet set f (classes sheet set n))
    unfolding rounds_from
    rounds_from_lem zero n h = absurd (omega (arith, count_few n))
    rounds_from_lem (suc f) n h =
        go (rounds_from_lem f (suc n)) (same_numbers (refined sheet set (classes sheet set n)) (classes sheet set n)) refl (equal_or_more n)
      where
        go : (length set < count (suc n) + f → RoundsFrom (suc n) (rounds_from sheet set f (classes sheet set (suc n))))
            → (b : Bool) → same_numbers (refined sheet set (classes sheet set n)) (classes sheet set n) ≡ b
            → (classes sheet set (suc n) ≡ classes sheet set n) ⊎ (count n < count (suc n))
            → RoundsFrom n (elim b [ true ↦ classes sheet set n ∷ [] | false ↦ classes sheet set n ∷ rounds_from sheet set f (refined sheet set (classes sheet set n)) ])
        go ih true e d =
            rounds_stop n (classes_next n ∙ same_equal (refined sheet set (classes sheet set n)) (classes sheet set n) e)
        go ih false e (inl q) =
            true_false (same_numbers (refined sheet set (classes sheet set n)) (classes sheet set n))
            (subst (λ (l : List ℕ). same_numbers l (classes sheet set n) ≡ true) (sym q ∙ classes_next n) (equal_same (classes sheet set n))) e
        go ih false e (inr l) =
            subst (λ (x : List ℕ). RoundsFrom n (classes sheet set n ∷ rounds_from sheet set f x)) (classes_next n)
            (rounds_more n (rounds_from sheet set f (classes sheet set (suc n)))
            (λ q. true_false (same_numbers (refined sheet set (classes sheet set n)) (classes sheet set n))
            (subst (λ (l : List ℕ). same_numbers l (classes sheet set n) ≡ true) (sym q ∙ classes_next n) (equal_same (classes sheet set n))) e)
            l (ih (omega arith)))

    -- the rounds of a set with a member
    pub rounds_of : 1 ≤ length set → RoundsFrom 0 (rounds sheet set)
    unfolding rounds
    rounds_of s = rounds_from_lem (length set) 0 (omega (arith, count_some s))

    from_zero : (n : ℕ) → 0 + n ≡ n
    from_zero n = omega arith

    -- the k-th list has the classes of round k
    pub rounds_at : 1 ≤ length set → (k : ℕ) → k < length (rounds sheet set) → get_or (rounds sheet set) k [] ≡ classes sheet set k
    rounds_at s k l = (rounds_of s).at k l ∙ ap (classes sheet set) (from_zero k)

    -- The result's round is the first one equal to its successor, and is below the number of members.
    pub record Result (n : ℕ) : Type 0 where
      pub equal : classes sheet set (suc n) ≡ classes sheet set n
      pub first : (m : ℕ) → m < n → classes sheet set (suc m) ≡ classes sheet set m → ⊥
      pub few : n < length set

    pub result_is : 1 ≤ length set → Result (result_of (rounds sheet set))
    result_is s =
        let r = rounds_of s in
        let n : ℕ = result_of (rounds sheet set) in
        let e : suc n ≡ length (rounds sheet set) = omega (arith, r.some) in
        record {
          equal = subst (λ (i : ℕ). classes sheet set (suc i) ≡ classes sheet set i) (from_zero n) (r.last n e);
          first = λ m l. subst (λ (i : ℕ). classes sheet set (suc i) ≡ classes sheet set i → ⊥) (from_zero m) (r.splits m (omega arith));
          few = omega (arith, r.grows n (omega arith), count_few (0 + n), count_some s);
        }

-- the classes of every round have a number for each member
pub classes_length : (sheet : Sheet) (set : List Configuration) (n : ℕ) → length (classes sheet set n) ≡ length set
unfolding classes refined
classes_length sheet set zero = numbered_length (stores_equal sheet set) [] set
classes_length sheet set (suc n) = numbered_length (together sheet set (classes sheet set n)) [] set
