-- The search finds every label and nothing else. It skips exactly the sets that have a label as a proper subset, so how many it tries
-- depends on the labels only.
use Rattle.std.specs.Prelude.{◌≡◌, Bool, ◌&&◌, ◌||◌, eqb}
use Rattle.std.proofs.Math.Path.{refl, sym, ap, subst}
use Rattle.std.proofs.Common.{◌∙◌, ⊎_elim, eqb-true, eq-eqb}
use Rattle.std.proofs.Math.Bool.{true, false, cond, not}
use mathlib.Core.List.Memᴰ
use mathlib.Core.List.{List, [], ◌∷◌, ◌++◌, append-nil, append_assoc, Memᴰ}
use Prim.Native.Nat.{ℕ, suc, ◌+◌, ◌-◌, ◌^◌, ◌≤◌, ◌<◌}
use native.Mathlib.Omega.{arith}
use Rattle.std.proofs.Math.ListN.{length}
use Rattle.std.proofs.lemmas.Bool.{eqb-false, not-true, not-false}
use Rattle.move_laws.specs.Lists.{select, any, concat_map, arrange, Distinct, no_elements, one_more}
use Rattle.move_laws.specs.TestLaws.{Tested, passes, fails, tested, true_false, and_intro, and_left, and_right, not_passes, same_test}
use Rattle.move_laws.specs.Members.{mem_select, select_mem, any_yes, any_mem, mem_concat_map}
use Rattle.move_laws.specs.AscendingLaws.{number_order, ascends_unique, arrange_ascends, arrange_keeps, arrange_only}
use Rattle.move_laws.specs.Counting.{distinct_append}
use Rattle.move_laws.specs.EnteringLaws.{distinct_apart}
use Rattle.move_laws.specs.FactSets.{Within}
use Rattle.move_laws.specs.Stores.{Constraint, join, includes, strictly_below}
use Rattle.move_laws.specs.FactSetLaws.{within_refl}
use Rattle.move_laws.specs.StoreLaws.{includes_within, within_includes, below_within, within_below, closure_same, closed_by_closure}
use Rattle.move_laws.specs.Sheet.{Sheet}
use Rattle.move_laws.specs.Moves.{count_up, is_closed, makes_true, labels}
use Rattle.move_laws.specs.LabelLaws.{count_up_mem, count_up_length, count_up_distinct, distinct_select, label_constraint, label_makes_true, label_below, label_minimal, labels_ascend, labels_distinct}
use Rattle.ordered_search.specs.OrderedSearch.{fact_count, sets_of_size, candidates_below, candidates, Search, begun, is_covered, qualifies, try_next, search_over, search_below, label_search}
use Rattle.search_laws.specs.SizeLaws.{count_same}
use Rattle.search_laws.specs.CandidateLaws.{same_length, candidates_all, candidates_only, candidates_distinct, candidates_select, candidates_split, subsets_first, mem_size, below_next}

-- elements that pass the first test or the second: how many pass each, and both
count_either : {A : Type 0} (p q : A → Bool) (xs : List A) → ((a : A) → p a ≡ false → q a ≡ true)
    → length (select p xs) + length (select q xs) ≡ length xs + length (select (λ a. p a && q a) xs)
count_either p q [] f = refl
count_either p q (x ∷ xs) f = go (count_either p q xs f) (p x) (q x) (f x)
  where
    go : length (select p xs) + length (select q xs) ≡ length xs + length (select (λ a. p a && q a) xs)
        → (b c : Bool) → (b ≡ false → c ≡ true)
        → length (cond b (x ∷ select p xs) (select p xs)) + length (cond c (x ∷ select q xs) (select q xs))
        ≡ suc (length xs) + length (cond (b && c) (x ∷ select (λ a. p a && q a) xs) (select (λ a. p a && q a) xs))
    go ih true true g = omega arith
    go ih true false g = omega arith
    go ih false true g = omega arith
    go ih false false g = true_false false (g refl) refl

-- an element at the end that does not pass
any_last : {A : Type 0} (p : A → Bool) (xs : List A) (x : A) → p x ≡ false → any p (xs ++ (x ∷ [])) ≡ any p xs
any_last p [] x h = rw h
any_last p (y ∷ ys) x h = ap (p y ||◌) (any_last p ys x h)

module _ (sheet : Sheet) (d c : ℕ) where
  -- a search through two lists is a search through the second from what the first gave
  pub search_append : (so : Search) (xs ys : List ℕ) → search_over sheet d c so (xs ++ ys) ≡ search_over sheet d c (search_over sheet d c so xs) ys
  unfolding search_over
  search_append so [] ys = refl
  search_append so (x ∷ xs) ys = search_append (try_next sheet d c so x) xs ys

  -- some label is a proper subset of s
  abbrev has_below : ℕ → Bool
  has_below s = any (λ b. strictly_below b s) (labels sheet d c)

  abbrev is_tried : ℕ → Bool
  is_tried s = not (has_below s)

  -- ---- what is found among the sets that have come up
  -- the labels among xs, each once
  record Among (xs found : List ℕ) : Type 0 where
    only : (a : ℕ) → Memᴰ a found → Memᴰ a (labels sheet d c) × Memᴰ a xs
    all : (a : ℕ) → Memᴰ a (labels sheet d c) → Memᴰ a xs → Memᴰ a found
    distinct : Distinct found

  among_none : Among [] []
  among_none =
      record { only = λ a m. absurd (Memᴰ.not-nil m); all = λ a m k. k; distinct = no_elements }

  label_qualifies : {a : ℕ} → Memᴰ a (labels sheet d c) → qualifies sheet d c a ≡ true
  label_qualifies {a} m =
      and_intro (eq-eqb _ _ (closure_same sheet.rules a (label_constraint sheet d c m).closed)) (within_includes (label_makes_true sheet d c m))

  label_none_below : {a : ℕ} → Memᴰ a (labels sheet d c) → has_below a ≡ false
  label_none_below {a} m = go (tested (has_below a))
    where
      go : Tested (has_below a) → has_below a ≡ false
      go (fails e) = e
      go (passes e) =
          let y = any_yes (λ b. strictly_below b a) (labels sheet d c) e in
          let l = below_within y.0 a y.2 in
          absurd (l.1 (label_minimal sheet d c m y.0 (label_constraint sheet d c y.1) (label_makes_true sheet d c y.1) l.0))

  -- a set that includes a label and has none as a proper subset is one
  label_inside : (s a : ℕ) → Memᴰ a (labels sheet d c) → Within a s → has_below s ≡ false → Memᴰ s (labels sheet d c)
  label_inside s a m w n = go (tested (eqb a s))
    where
      go : Tested (eqb a s) → Memᴰ s (labels sheet d c)
      go (passes e) = subst (λ (b : ℕ). Memᴰ b (labels sheet d c)) (eqb-true a s e) m
      go (fails e) =
          true_false (has_below s) (any_mem (λ b. strictly_below b s) (labels sheet d c) m (within_below w (eqb-false a s e))) n

  -- a set that qualifies and has no label as a proper subset is one
  qualifies_label : (s : ℕ) → s < 2 ^ sheet.facts → qualifies sheet d c s ≡ true → has_below s ≡ false → Memᴰ s (labels sheet d c)
  qualifies_label s h q n =
      let own : Constraint sheet.facts sheet.rules s =
      record {
        closed = closed_by_closure sheet.rules s (eqb-true _ _ (and_left (is_closed sheet s) (makes_true sheet d c s) q));
        facts = h;
      } in
      let makes : Within c (join sheet.rules d s) =
      includes_within (join sheet.rules d s) c (and_right (is_closed sheet s) (makes_true sheet d c s) q) in
      let x = label_below sheet d c s own makes in
      label_inside s x.0 x.1 x.2 n

  -- ---- one set comes up
  module _ (xs : List ℕ) (s : ℕ) (ys : List ℕ) (up : candidates sheet.facts ≡ xs ++ (s ∷ ys)) where
    not_before : Memᴰ s xs → ⊥
    not_before m = distinct_apart xs (s ∷ ys) (rw up at (candidates_distinct sheet.facts)) s m (Memᴰ.head refl)

    low : s < 2 ^ sheet.facts
    low = candidates_only sheet.facts (subst (Memᴰ s) (sym up) (Memᴰ.append_right xs (Memᴰ.head refl)))

    module _ (found : List ℕ) (f : Among xs found) where
      covered_below : is_covered found s ≡ has_below s
      covered_below = same_test (is_covered found s) (has_below s) there back
        where
          there : is_covered found s ≡ true → has_below s ≡ true
          there h =
              let y = any_yes (λ b. includes s b) found h in
              let o = f.only y.0 y.1 in
              any_mem (λ b. strictly_below b s) (labels sheet d c) o.0
              (within_below (includes_within s y.0 y.2) (λ e. not_before (subst (λ (a : ℕ). Memᴰ a xs) e o.1)))

          back : has_below s ≡ true → is_covered found s ≡ true
          back h =
              let y = any_yes (λ b. strictly_below b s) (labels sheet d c) h in
              let l = below_within y.0 s y.2 in
              any_mem (λ b. includes s b) found
              (f.all y.0 y.1 (subsets_first sheet.facts xs s ys up y.0 l.0 l.1)) (within_includes l.0)

      among_same : (Memᴰ s (labels sheet d c) → ⊥) → Among (xs ++ (s ∷ [])) found
      among_same n =
          record {
            only = λ a m. let o = f.only a m in (o.0, Memᴰ.append_left (s ∷ []) o.1);
            all = λ a m k.
                ⊎_elim (λ (i : Memᴰ a xs). f.all a m i)
                (λ (i : Memᴰ a (s ∷ [])). absurd (n (subst (λ (b : ℕ). Memᴰ b (labels sheet d c)) (Memᴰ.eq_of_singleton i) m)))
                (Memᴰ.append_cases xs k);
            distinct = f.distinct;
          }

      among_more : Memᴰ s (labels sheet d c) → Among (xs ++ (s ∷ [])) (found ++ (s ∷ []))
      among_more l =
          record {
            only = λ a m.
                ⊎_elim (λ (i : Memᴰ a found). let o = f.only a i in (o.0, Memᴰ.append_left (s ∷ []) o.1))
                (λ (i : Memᴰ a (s ∷ [])).
                (subst (λ (b : ℕ). Memᴰ b (labels sheet d c)) (sym (Memᴰ.eq_of_singleton i)) l, Memᴰ.append_right xs i))
                (Memᴰ.append_cases found m);
            all = λ a m k.
                ⊎_elim (λ (i : Memᴰ a xs). Memᴰ.append_left (s ∷ []) (f.all a m i))
                (λ (i : Memᴰ a (s ∷ [])). Memᴰ.append_right found i) (Memᴰ.append_cases xs k);
            distinct =
                distinct_append found (s ∷ []) f.distinct (one_more (λ m. Memᴰ.not-nil m) no_elements)
                (λ a m k. not_before (subst (λ (b : ℕ). Memᴰ b xs) (Memᴰ.eq_of_singleton k) (f.only a m).1));
          }

    among_next : (so : Search) → Among xs so.found → Among (xs ++ (s ∷ [])) (try_next sheet d c so s).found
    among_next so f = go (is_covered so.found s) refl (qualifies sheet d c s) refl
      where
        go : (b : Bool) → is_covered so.found s ≡ b → (t : Bool) → qualifies sheet d c s ≡ t
            → Among (xs ++ (s ∷ [])) (cond b so (record { found = cond t (so.found ++ (s ∷ [])) so.found; tried = suc so.tried })).found
        go true e t q =
            among_same so.found f (λ m. true_false (has_below s) (sym (covered_below so.found f) ∙ e) (label_none_below m))
        go false e true q = among_more so.found f (qualifies_label s low q (sym (covered_below so.found f) ∙ e))
        go false e false q = among_same so.found f (λ m. true_false (qualifies sheet d c s) (label_qualifies m) q)

    tried_next : (so : Search) → Among xs so.found → (try_next sheet d c so s).tried ≡ so.tried + cond (has_below s) 0 1
    tried_next so f = rw (covered_below so.found f) (go (has_below s))
      where
        go : (b : Bool) → (cond b so (record { found = cond (qualifies sheet d c s) (so.found ++ (s ∷ [])) so.found; tried = suc so.tried })).tried
            ≡ so.tried + cond b 0 1
        go true = omega arith
        go false = omega arith

  -- ---- the sets of a list come up
  -- a set that came up is among those before the next
  up_next : (xs : List ℕ) (s : ℕ) (zs ys : List ℕ) → candidates sheet.facts ≡ xs ++ (s ∷ zs ++ ys)
      → candidates sheet.facts ≡ (xs ++ (s ∷ [])) ++ (zs ++ ys)
  up_next xs s zs ys e = e ∙ sym (append_assoc xs (s ∷ []) (zs ++ ys))

  among_over : (xs zs ys : List ℕ) (so : Search) → candidates sheet.facts ≡ xs ++ (zs ++ ys) → Among xs so.found
      → Among (xs ++ zs) (search_over sheet d c so zs).found
  unfolding search_over
  among_over xs [] ys so e f = rw append-nil f
  among_over xs (s ∷ zs) ys so e f =
      subst (λ (l : List ℕ). Among l (search_over sheet d c (try_next sheet d c so s) zs).found) (append_assoc xs (s ∷ []) zs)
      (among_over (xs ++ (s ∷ [])) zs ys (try_next sheet d c so s) (up_next xs s zs ys e) (among_next xs s (zs ++ ys) e so f))

  tried_over : (xs zs ys : List ℕ) (so : Search) → candidates sheet.facts ≡ xs ++ (zs ++ ys) → Among xs so.found
      → (search_over sheet d c so zs).tried ≡ so.tried + length (select is_tried zs)
  unfolding search_over
  tried_over xs [] ys so e f = omega arith
  tried_over xs (s ∷ zs) ys so e f =
      tried_over (xs ++ (s ∷ [])) zs ys (try_next sheet d c so s) (up_next xs s zs ys e) (among_next xs s (zs ++ ys) e so f)
      ∙ ap (◌+ length (select is_tried zs)) (tried_next xs s (zs ++ ys) e so f) ∙ go (has_below s)
    where
      go : (b : Bool) → so.tried + cond b 0 1 + length (select is_tried zs)
          ≡ so.tried + length (cond (not b) (s ∷ select is_tried zs) (select is_tried zs))
      go true = omega arith
      go false = omega arith

  -- from the start
  among_first : (zs ys : List ℕ) → candidates sheet.facts ≡ zs ++ ys → Among zs (search_over sheet d c begun zs).found
  among_first zs ys e = among_over [] zs ys begun e among_none

  -- a set is skipped exactly where a label is a proper subset of it
  pub skipped_exactly : (xs : List ℕ) (s : ℕ) (ys : List ℕ) → candidates sheet.facts ≡ xs ++ (s ∷ ys)
      → is_covered (search_over sheet d c begun xs).found s ≡ any (λ b. strictly_below b s) (labels sheet d c)
  skipped_exactly xs s ys e = covered_below xs s ys e (search_over sheet d c begun xs).found (among_first xs (s ∷ ys) e)

  -- ---- the whole search
  among_all : Among (candidates sheet.facts) (label_search sheet d c).found
  among_all = among_first (candidates sheet.facts) [] (sym (append-nil (candidates sheet.facts)))

  -- what is found, put in ascending order, is the labels
  pub search_labels : arrange number_order.before (label_search sheet d c).found ≡ labels sheet d c
  search_labels =
      ascends_unique number_order (arrange number_order.before (label_search sheet d c).found) (labels sheet d c)
      (arrange_ascends number_order (label_search sheet d c).found) (labels_ascend sheet d c)
      (λ a m. (among_all.only a (arrange_only number_order (label_search sheet d c).found m)).0)
      (λ a m. arrange_keeps number_order (label_search sheet d c).found
      (among_all.all a m (candidates_all sheet.facts a (label_constraint sheet d c m).facts)))

  -- the sets tried are those that have no label as a proper subset
  pub search_tried : (label_search sheet d c).tried
      ≡ length (select (λ s. not (any (λ b. strictly_below b s) (labels sheet d c))) (count_up 0 (2 ^ sheet.facts)))
  search_tried =
      tried_over [] (candidates sheet.facts) [] begun (sym (append-nil (candidates sheet.facts))) among_none
      ∙ omega (arith, candidates_select sheet.facts is_tried)

  -- the sets that include a label and have none as a proper subset are the labels
  labels_tried : length (select (λ s. is_tried s && is_covered (labels sheet d c) s) (count_up 0 (2 ^ sheet.facts))) ≡ length (labels sheet d c)
  labels_tried =
      same_length (select both (count_up 0 (2 ^ sheet.facts))) (labels sheet d c)
      (distinct_select both (count_up 0 (2 ^ sheet.facts)) (count_up_distinct (2 ^ sheet.facts) 0)) (labels_distinct sheet d c) there back
    where
      both : ℕ → Bool
      both s = is_tried s && is_covered (labels sheet d c) s

      there : (s : ℕ) → Memᴰ s (select both (count_up 0 (2 ^ sheet.facts))) → Memᴰ s (labels sheet d c)
      there s m =
          let b = (mem_select both (count_up 0 (2 ^ sheet.facts)) m).1 in
          let y = any_yes (λ b. includes s b) (labels sheet d c) (and_right (is_tried s) (is_covered (labels sheet d c) s) b) in
          label_inside s y.0 y.1 (includes_within s y.0 y.2)
          (not-true (has_below s) (and_left (is_tried s) (is_covered (labels sheet d c) s) b))

      back : (s : ℕ) → Memᴰ s (labels sheet d c) → Memᴰ s (select both (count_up 0 (2 ^ sheet.facts)))
      back s m =
          select_mem both (count_up 0 (2 ^ sheet.facts))
          (count_up_mem (2 ^ sheet.facts) 0 s (omega arith) (omega (arith, (label_constraint sheet d c m).facts)))
          (and_intro (not_passes (label_none_below m)) (any_mem (λ b. includes s b) (labels sheet d c) m (within_includes (within_refl s))))

  -- the sets tried are all but those that include a label, and the labels themselves
  pub search_counted : (label_search sheet d c).tried + length (select (is_covered (labels sheet d c)) (count_up 0 (2 ^ sheet.facts)))
      ≡ 2 ^ sheet.facts + length (labels sheet d c)
  search_counted =
      omega (
        arith,
        search_tried,
        count_either is_tried (is_covered (labels sheet d c)) (count_up 0 (2 ^ sheet.facts)) covered,
        count_up_length (2 ^ sheet.facts) 0,
        labels_tried,
      )
    where
      covered : (s : ℕ) → is_tried s ≡ false → is_covered (labels sheet d c) s ≡ true
      covered s h =
          let y = any_yes (λ b. strictly_below b s) (labels sheet d c) (not-false (has_below s) h) in
          any_mem (λ b. includes s b) (labels sheet d c) y.1 (within_includes (below_within y.0 s y.2).0)

  -- ---- the search through the sets with fewer than k facts
  -- no label is found twice
  pub search_distinct : (k : ℕ) → k ≤ suc sheet.facts → Distinct (search_below sheet d c k).found
  search_distinct k h = (among_first (candidates_below sheet.facts k) _ (candidates_split sheet.facts k h)).distinct

  -- of sets none of which includes another, those are found that qualify and are not covered at the start
  found_alike : (ss found : List ℕ) (so : Search) → Distinct ss
      → ((a b : ℕ) → Memᴰ a ss → Memᴰ b ss → Within a b → a ≡ b)
      → ((s : ℕ) → Memᴰ s ss → is_covered so.found s ≡ is_covered found s)
      → (search_over sheet d c so ss).found ≡ so.found ++ select (λ s. qualifies sheet d c s && not (is_covered found s)) ss
  unfolding search_over
  found_alike [] found so u apart h = sym (append-nil so.found)
  found_alike (s ∷ ss) found so (one_more n u) apart h =
      rw (← h s (Memᴰ.head refl))
      (go (λ next k. found_alike ss found next u (λ a b m i. apart a b (Memᴰ.tail m) (Memᴰ.tail i)) k)
      (is_covered so.found s) (qualifies sheet d c s))
    where
      rest : List ℕ
      rest = select (λ s. qualifies sheet d c s && not (is_covered found s)) ss

      other : (t : ℕ) → Memᴰ t ss → Tested (includes t s) → includes t s ≡ false
      other t m (fails e) = e
      other t m (passes e) =
          let q : s ≡ t = apart s t (Memᴰ.head refl) (Memᴰ.tail m) (includes_within t s e) in
          absurd (n (subst (λ (a : ℕ). Memᴰ a ss) (sym q) m))

      same : (t : ℕ) → Memᴰ t ss → is_covered so.found t ≡ is_covered found t
      same t m = h t (Memᴰ.tail m)

      more : (t : ℕ) → Memᴰ t ss → is_covered (so.found ++ (s ∷ [])) t ≡ is_covered found t
      more t m = any_last (λ b. includes t b) so.found s (other t m (tested (includes t s))) ∙ same t m

      go : ((next : Search) → ((t : ℕ) → Memᴰ t ss → is_covered next.found t ≡ is_covered found t)
          → (search_over sheet d c next ss).found ≡ next.found ++ rest)
          → (b t : Bool)
          → (search_over sheet d c (cond b so (record { found = cond t (so.found ++ (s ∷ [])) so.found; tried = suc so.tried })) ss).found
          ≡ so.found ++ cond (t && not b) (s ∷ rest) rest
      go ih true true = ih so same
      go ih true false = ih so same
      go ih false true = ih (record { found = so.found ++ (s ∷ []); tried = suc so.tried }) more ∙ append_assoc so.found (s ∷ []) rest
      go ih false false = ih (record { found = so.found; tried = suc so.tried }) same

  -- of the sets with k facts those are found that qualify and include no label with fewer
  pub search_size : (k : ℕ) → k ≤ sheet.facts
      → (search_below sheet d c (suc k)).found
      ≡ (search_below sheet d c k).found
      ++ select (λ s. qualifies sheet d c s && not (is_covered (search_below sheet d c k).found s)) (sets_of_size sheet.facts k)
  search_size k h =
      ap (λ (l : List ℕ). (search_over sheet d c begun l).found) (below_next sheet.facts k)
      ∙ ap (λ (so : Search). so.found) (search_append begun (candidates_below sheet.facts k) (sets_of_size sheet.facts k))
      ∙ found_alike (sets_of_size sheet.facts k) (search_below sheet d c k).found (search_below sheet d c k)
      (distinct_select (λ s. eqb (fact_count sheet.facts s) k) (count_up 0 (2 ^ sheet.facts)) (count_up_distinct (2 ^ sheet.facts) 0))
      (λ a b m i w. let x = mem_size sheet.facts k m in let y = mem_size sheet.facts k i in count_same sheet.facts y.0 w (x.1 ∙ sym y.1))
      (λ s m. refl)

  -- nothing more is found where each set that qualifies is covered
  found_same : (ss : List ℕ) (so : Search) → ((s : ℕ) → Memᴰ s ss → qualifies sheet d c s ≡ true → is_covered so.found s ≡ true)
      → (search_over sheet d c so ss).found ≡ so.found
  unfolding search_over
  found_same [] so f = refl
  found_same (s ∷ ss) so f =
      found_same ss (try_next sheet d c so s) (λ t m q. ap (λ (l : List ℕ). is_covered l t) same ∙ f t (Memᴰ.tail m) q) ∙ same
    where
      go : (b : Bool) → is_covered so.found s ≡ b → (t : Bool) → qualifies sheet d c s ≡ t
          → (cond b so (record { found = cond t (so.found ++ (s ∷ [])) so.found; tried = suc so.tried })).found ≡ so.found
      go true e t q = refl
      go false e true q = true_false (is_covered so.found s) (f s (Memᴰ.head refl) q) e
      go false e false q = refl

      same : (try_next sheet d c so s).found ≡ so.found
      same = go (is_covered so.found s) refl (qualifies sheet d c s) refl

  -- where each set that qualifies includes a label found among the sets with fewer than k facts, no more are found
  pub search_ended : (k : ℕ) → k ≤ suc sheet.facts
      → ((s : ℕ) → s < 2 ^ sheet.facts → qualifies sheet d c s ≡ true → is_covered (search_below sheet d c k).found s ≡ true)
      → (label_search sheet d c).found ≡ (search_below sheet d c k).found
  search_ended k h f =
      ap (λ (l : List ℕ). (search_over sheet d c begun l).found) (candidates_split sheet.facts k h)
      ∙ ap (λ (so : Search). so.found) (search_append begun (candidates_below sheet.facts k) rest)
      ∙ found_same rest (search_below sheet d c k) (λ s m q. f s (low s m) q)
    where
      rest : List ℕ
      rest = concat_map (sets_of_size sheet.facts) (count_up k (suc sheet.facts - k))

      low : (s : ℕ) → Memᴰ s rest → s < 2 ^ sheet.facts
      low s m =
          let i = mem_concat_map (sets_of_size sheet.facts) (count_up k (suc sheet.facts - k)) m in
          (mem_size sheet.facts i.0 i.2).0

-- ---- two asks
-- asks with the same labels try as many sets
pub tried_same : (sheet : Sheet) (d c e f : ℕ) → labels sheet d c ≡ labels sheet e f → (label_search sheet d c).tried ≡ (label_search sheet e f).tried
tried_same sheet d c e f h =
    search_tried sheet d c
    ∙ ap (λ (l : List ℕ). length (select (λ s. not (any (λ b. strictly_below b s) l)) (count_up 0 (2 ^ sheet.facts)))) h
    ∙ sym (search_tried sheet e f)
