-- The walk before size k: what is found among the sets with fewer facts is listed, and the sets that include it are no longer marked.
use Rattle.std.specs.Prelude.{◌≡◌, refl, Bool, true, false, cond, not, ◌&&◌, ℕ, suc, ◌+◌, ◌-◌, ◌*◌, ◌^◌, ◌≤◌, ◌<◌, eqb, ltb, length, take, drop, Some, None}
use Rattle.std.proofs.Common.{sym, ap, ◌∙◌, subst, inl, inr, arith, length-append, take-add, drop-drop, drop_at, eqb-true, eq-eqb, ltb-true, ltb-false}
use mathlib.Core.List.Memᴰ
use mathlib.Core.List.{List, [], ◌∷◌, ◌++◌, Memᴰ}
use Rattle.set_digits.specs.TestLaws.{Tested, passes, fails, tested, true_false, and_intro}
use Rattle.digit_lists.specs.Members.{select_mem}
use Rattle.set_digits.specs.Frames.{SameOutside, outside_same, outside_then, outside_part}
use Rattle.digit_lists.specs.Stores.{includes}
use Rattle.set_digits.specs.Moves.{count_up}
use Rattle.set_digits.specs.LabelLaws.{mem_count_up, count_up_mem}
use Rattle.set_digits.specs.OrderedSearch.{fact_count, is_covered}
use Rattle.set_digits.specs.SizeLaws.{count_most}
use Rattle.set_digits.specs.SetDigits.{words_of, mark}
use Rattle.set_digits.specs.MarkedLaws.{marked_agree, words_sets}
use Rattle.digit_lists.specs.DigitLists.{LeastSize, marked_of_size}
use Rattle.digit_lists.specs.SizeSplit.{count_wider}
use Rattle.digit_lists.specs.ListedBehind.{ListedBehind}
use Rattle.label_walk.specs.LabelWalk.{found_below, numbers_at, NoneBeyond, KeptBetween}
use Rattle.label_walk.specs.SelectLaws.{select_alike, select_both, select_below, any_append}
use Rattle.label_walk.specs.FoundLaws.{found_after, found_first, found_next, found_room, found_ended, found_covers, found_skip}
use Rattle.label_walk.specs.ClearedSets.{Cleared, cond_both}

-- the digit of set s is 1 in the slice u
abbrev pub is_marked : ℕ → List ℕ → ℕ → Bool
is_marked left u s = eqb (mark u left s) 1

-- what is found of the marked sets with fewer than k facts, and then of those with k
abbrev pub marked_below : ℕ → ℕ → List ℕ → ℕ → List ℕ
marked_below facts left u k = found_below (is_marked left u) facts k

abbrev pub marked_after : ℕ → ℕ → List ℕ → ℕ → List ℕ
marked_after facts left u k = found_after (is_marked left u) facts k (marked_below facts left u k)

-- w is the slice before size k, with n sets listed; u is the slice at first
pub record Walked (facts words left at : ℕ) (u : List ℕ) (k n : ℕ) (w : List ℕ) : Type 0 where
  pub count : n ≡ length (marked_below facts left u k)
  pub listed : numbers_at w at n ≡ marked_below facts left u k
  pub marks : (s : ℕ) → s < 32 * words → mark w left s ≡ cond (is_covered (marked_below facts left u k) s) 0 (mark u left s)
  pub same : SameOutside left (at + n) u w
  pub between : KeptBetween (left + words) at u w

module _ (facts words left at : ℕ) (u : List ℕ) where
  abbrev found : ℕ → List ℕ
  found = marked_below facts left u

  -- at first nothing is found
  pub walked_first : Walked facts words left at u 0 0 u
  walked_first =
      record {
        count = rw (found_first (is_marked left u) facts);
        listed = sym (found_first (is_marked left u) facts);
        marks = λ s h. rw (found_first (is_marked left u) facts);
        same = outside_same left (at + 0) u;
        between = record { at = λ i l h. refl };
      }

  module _ (k n : ℕ) (w : List ℕ) (walked : Walked facts words left at u k n w) where
    abbrev fresh : List ℕ
    fresh = marked_after facts left u k

    -- what is found with k facts is what is still marked
    pub walked_size : facts ≤ 16 → words ≡ words_of facts → NoneBeyond facts left u → marked_of_size w left words k ≡ marked_after facts left u k
    walked_size h e beyond =
        select_below (λ s. eqb (fact_count 16 s) k && eqb (mark w left s) 1) (2 ^ facts) (32 * words) enough
        (λ s l m.
        past s (walked.marks s m ∙ none (is_covered (found k) s) (mark u left s) (beyond.none s l (omega (arith, e)))) (eqb (fact_count 16 s) k))
        ∙ select_alike (λ s. eqb (fact_count 16 s) k && eqb (mark w left s) 1)
        (λ s. eqb (fact_count facts s) k && (is_marked left u s && not (is_covered (found k) s))) (count_up 0 (2 ^ facts))
        (λ s m. alike s (omega (arith, mem_count_up (2 ^ facts) 0 m)))
        ∙ sym (select_both (λ s. eqb (fact_count facts s) k) (λ s. is_marked left u s && not (is_covered (found k) s)) (count_up 0 (2 ^ facts)))
      where
        enough : 2 ^ facts ≤ 32 * words
        enough = omega (arith, e, words_sets facts)

        none : (t : Bool) (x : ℕ) → x ≡ 0 → cond t 0 x ≡ 0
        none true x z = refl
        none false x z = z

        past : (s : ℕ) → mark w left s ≡ 0 → (t : Bool) → (t && eqb (mark w left s) 1) ≡ false
        past s z true = rw z
        past s z false = refl

        both : (t : Bool) (x : ℕ) → eqb (cond t 0 x) 1 ≡ (eqb x 1 && not t)
        both true x = go (eqb x 1)
          where
            go : (b : Bool) → false ≡ (b && false)
            go true = refl
            go false = refl
        both false x = go (eqb x 1)
          where
            go : (b : Bool) → b ≡ (b && true)
            go true = refl
            go false = refl

        alike : (s : ℕ) → s < 2 ^ facts
            → (eqb (fact_count 16 s) k && eqb (mark w left s) 1) ≡ (eqb (fact_count facts s) k && (is_marked left u s && not (is_covered (found k) s)))
        alike s l =
            ap (λ (x : ℕ). eqb x k && eqb (mark w left s) 1) (count_wider facts 16 s h l)
            ∙ ap (λ (x : ℕ). eqb (fact_count facts s) k && eqb x 1) (walked.marks s (omega (arith, enough)))
            ∙ ap (λ (t : Bool). eqb (fact_count facts s) k && t) (both (is_covered (found k) s) (mark u left s))

    -- there is room for it
    pub walked_room : k ≤ facts → n + length (marked_after facts left u k) ≤ length (marked_below facts left u (suc facts))
    walked_room h =
        omega (
          arith,
          walked.count,
          length-append (found k) fresh,
          ap length (found_next (is_marked left u) facts k),
          found_room (is_marked left u) facts (k + 1) (omega arith),
        )

    -- it is listed behind the others, and the sets that include it are cleared
    pub walked_next : (m : ℕ) (v x : List ℕ) → left + words ≤ at → ListedBehind at n w (marked_after facts left u k) m v
        → Cleared left words (at + n) (m - n) v x → Walked facts words left at u (k + 1) m x
    walked_next m v x apart listing clearing =
        record {
          count = omega (arith, listing.0, walked.count, ap length next, length-append (found k) fresh);
          listed = outside_part clearing.same at m (inr apart) ∙ whole ∙ sym next;
          marks = marks;
          same =
              outside_then
              (outside_then walked.same listing.2 left (at + m) (omega arith) (omega arith) (omega (arith, listing.0)) (omega arith))
              clearing.same left (at + m) (omega arith) (omega arith) (omega arith) (omega arith);
          between = record {
            at = λ i l h. clearing.same.at i (inr l) ∙ listing.2.at i (inl (omega arith)) ∙ walked.between.at i l h;
          };
        }
      where
        next : found (k + 1) ≡ found k ++ fresh
        next = found_next (is_marked left u) facts k

        whole : numbers_at v at m ≡ found k ++ fresh
        whole = listing.1 ∙ ap (λ (l : List ℕ). l ++ fresh) walked.listed

        -- the numbers listed last
        last : numbers_at v (at + n) (m - n) ≡ fresh
        last =
            let e : n + (m - n) ≡ m = omega (arith, listing.0) in
            let before : take n (drop at v) ≡ found k = outside_part listing.2 at n (inl (omega arith)) ∙ walked.listed in
            let size : length (found k) ≡ n = sym walked.count in
            let parts : found k ++ numbers_at v (at + n) (m - n) ≡ found k ++ fresh =
            ap (λ (l : List ℕ). l ++ numbers_at v (at + n) (m - n)) (sym before)
            ∙ ap (λ (l : List ℕ). take n (drop at v) ++ take (m - n) l) (sym (drop-drop n at v))
            ∙ sym (take-add n (m - n) (drop at v))
            ∙ ap (λ (i : ℕ). take i (drop at v)) e ∙ whole in
            sym (drop_at (found k) (numbers_at v (at + n) (m - n)) n size) ∙ ap (drop n) parts ∙ drop_at (found k) fresh n size

        marks : (s : ℕ) → s < 32 * words → mark x left s ≡ cond (is_covered (found (k + 1)) s) 0 (mark u left s)
        marks s l =
            clearing.digits s l
            ∙ ap (λ (ys : List ℕ). cond (is_covered ys s) 0 (mark v left s)) last
            ∙ ap (cond (is_covered fresh s) 0)
            (marked_agree v w left words (λ i h. listing.2.at (left + i) (inl (omega arith))) s l ∙ walked.marks s l)
            ∙ cond_both (is_covered (found k) s) (is_covered fresh s) (mark u left s)
            ∙ ap (λ (t : Bool). cond t 0 (mark u left s))
            (sym (any_append (λ b. includes s b) (found k) fresh) ∙ ap (λ (ys : List ℕ). is_covered ys s) (sym next))

    -- a set that is marked at first and includes none that is found is still marked
    still : words ≡ words_of facts → (s : ℕ) → s < 2 ^ facts → is_marked left u s ≡ true → is_covered (found k) s ≡ false
        → (s < 32 * words) × (mark w left s ≡ 1)
    still q s l p t =
        let few : s < 32 * words = omega (arith, q, words_sets facts) in
        (few, walked.marks s few ∙ ap (λ (b : Bool). cond b 0 (mark u left s)) t ∙ eqb-true (mark u left s) 1 p)

    -- where no set is marked any more, what is found is the whole
    pub walked_ended : k ≤ suc facts → words ≡ words_of facts → LeastSize w left words None
        → marked_below facts left u k ≡ marked_below facts left u (suc facts)
    walked_ended h q least = found_ended (is_marked left u) facts k h (λ s l p. go s l p (tested (is_covered (found k) s)))
      where
        go : (s : ℕ) → s < 2 ^ facts → is_marked left u s ≡ true → Tested (is_covered (found k) s) → is_covered (found k) s ≡ true
        go s l p (passes t) = t
        go s l p (fails t) = let m = still q s l p t in absurd (least s m.0 m.1)

    -- no set with fewer facts than r is marked: what is found is found among the sets with fewer than r, and some set with r facts is marked
    pub walked_least : (r : ℕ) → facts ≤ 16 → words ≡ words_of facts → NoneBeyond facts left u → LeastSize w left words (Some r)
        → (r ≤ facts) × Walked facts words left at u r n w × (0 < length (marked_of_size w left words r))
    walked_least r h q beyond least = let a = least.1 in from a.0 a.1 a.2 a.3
      where
        from : (s : ℕ) → s < 32 * words → mark w left s ≡ 1 → fact_count 16 s ≡ r
            → (r ≤ facts) × Walked facts words left at u r n w × (0 < length (marked_of_size w left words r))
        from s l m e = (omega (arith, size, count_most facts s), again, some)
          where
            covered : (t : Bool) (x : ℕ) → cond t 0 x ≡ 1 → (t ≡ false) × (x ≡ 1)
            covered true x one = absurd (omega arith)
            covered false x one = (refl, one)

            own : (is_covered (found k) s ≡ false) × (mark u left s ≡ 1)
            own = covered (is_covered (found k) s) (mark u left s) (sym (walked.marks s (l)) ∙ m)

            among : Tested (ltb s (2 ^ facts)) → s < 2 ^ facts
            among (passes t) = ltb-true s (2 ^ facts) t
            among (fails t) = absurd (omega (arith, own.1, beyond.none s (ltb-false s (2 ^ facts) t) (omega (arith, q, l))))

            inside : s < 2 ^ facts
            inside = among (tested (ltb s (2 ^ facts)))

            size : fact_count facts s ≡ r
            size = sym (count_wider facts 16 s h inside) ∙ e

            later : Tested (ltb r k) → k ≤ r
            later (passes t) =
                true_false (is_covered (found k) s)
                (found_covers (is_marked left u) facts k s inside (eq-eqb (mark u left s) 1 own.1) (omega (arith, size, ltb-true r k t))) own.0
            later (fails t) = ltb-false r k t

            same : found r ≡ found k
            same =
                let z : k + (r - k) ≡ r = omega (arith, later (tested (ltb r k))) in
                rw z at
                (found_skip (is_marked left u) facts k (r - k)
                (λ t i p c.
                let o = still q t i p c in
                omega (arith, z, count_wider facts 16 t h i, least.0 t o.0 o.1)))

            again : Walked facts words left at u r n w
            again =
                record {
                  count = walked.count ∙ ap length (sym same);
                  listed = walked.listed ∙ sym same;
                  marks = λ t i. walked.marks t i ∙ ap (λ (ys : List ℕ). cond (is_covered ys t) 0 (mark u left t)) (sym same);
                  same = walked.same;
                  between = walked.between;
                }

            some : 0 < length (marked_of_size w left words r)
            some =
                mem_length (marked_of_size w left words r)
                (select_mem (λ t. eqb (fact_count 16 t) r && eqb (mark w left t) 1) (count_up 0 (32 * words))
                (count_up_mem (32 * words) 0 s (omega arith) (omega (arith, l)))
                (and_intro (eq-eqb (fact_count 16 s) r (e)) (eq-eqb (mark w left s) 1 (m))))
              where
                mem_length : (xs : List ℕ) {a : ℕ} → Memᴰ a xs → 0 < length xs
                mem_length [] i = absurd (Memᴰ.not-nil i)
                mem_length (x ∷ xs) i = omega arith

    -- which the slice then lists
    pub walked_whole : words ≡ words_of facts → marked_below facts left u k ≡ marked_below facts left u (suc facts)
        → (n ≡ length (marked_below facts left u (suc facts))) × (numbers_at w at n ≡ marked_below facts left u (suc facts))
        × SameOutside left (at + n) u w × KeptBetween (left + words_of facts) at u w
    walked_whole q e =
        (walked.count ∙ ap length e, walked.listed ∙ e, walked.same, subst (λ (m : ℕ). KeptBetween (left + m) at u w) q walked.between)
