-- The moves of the members, one member after another: those with places for ids are distinct, and no other member's moves change.
use Rattle.std.specs.Prelude.{◌≡◌, refl, ◌⊎◌, Bool, true, false, ℕ, zero, suc, ◌+◌, ◌-◌, ◌/◌, ◌%◌, ◌≤◌, ◌<◌, length, get_or, ltb}
use Rattle.std.proofs.Common.{sym, ap, ◌∙◌, subst, inl, inr, arith, ltb-true, ltb-false}
use mathlib.Core.List.{List, [], ◌∷◌, ◌++◌, map, map-append, Memᴰ}
use Rattle.number_lists.specs.Members.{mem_map}
use Rattle.number_lists.specs.ListPlaces.{map_alike}
use Rattle.number_lists.specs.Tabulate.{tabulate, tabulate_same}
use Rattle.number_lists.specs.Lists.{Distinct, no_elements, one_more, arrange}
use Rattle.number_lists.specs.Counting.{ascends_distinct}
use Rattle.number_lists.specs.Frames.{SameOutside, outside_again, outside_wider}
use Rattle.number_lists.specs.AscendingLaws.{number_order}
use Rattle.number_lists.specs.NumberLists.{numbers_in}
use Rattle.number_lists.specs.NumberLaws.{numbers_tabulate, numbers_at_lem, numbers_outside}
use Rattle.number_lists.specs.Entered.{Sorted}
use Rattle.set_order.specs.OrderedSet.{span_first, span_total, span_numbers}
use Rattle.set_order.specs.SetOrderSteps.{placed_number, placed_numbers, part_by, TargetFits, TargetsPlaced, MovesReady, MovesArranged, SpansApart, AllReady, AllArranged}
use Rattle.set_order.specs.CopyLaws.{placed_outside}
use Rattle.work_layout.specs.WorkLayout.{work_end, spans_at, moves_at, members_at}

-- ---- images
-- a map that tells the elements of a list apart keeps them distinct
distinct_image : {A B : Type 0} (f : A → B) (xs : List A) → ((a b : A) → Memᴰ a xs → Memᴰ b xs → f a ≡ f b → a ≡ b)
    → Distinct xs → Distinct (map f xs)
distinct_image f [] h d = no_elements
distinct_image {A} f (x ∷ xs) h (one_more n d) =
    one_more
    (λ m.
    let y = mem_map f xs m in
    n (subst (λ (a : A). Memᴰ a xs) (sym (h x y.0 (Memᴰ.head refl) (Memᴰ.tail y.1) y.2)) y.1))
    (distinct_image f xs (λ a b p q. h a b (Memᴰ.tail p) (Memᴰ.tail q)) d)

tabulate_image : {A B : Type 0} (f : A → B) (g : ℕ → A) (n : ℕ) → tabulate (λ i. f (g i)) n ≡ map f (tabulate g n)
unfolding tabulate
tabulate_image f g zero = refl
tabulate_image {A} {B} f g (suc n) =
    ap (λ (l : List B). l ++ (f (g n) ∷ [])) (tabulate_image f g n) ∙ sym (map-append f (tabulate g n) (g n ∷ []))

-- ---- the moves of a member
-- the part with places for ids
numbers_placed : {v w : List ℕ} {from end : ℕ} → from ≤ end → end ≤ length v → TargetsPlaced v from end w
    → numbers_in w from end ≡ map (placed_number v) (numbers_in v from end)
numbers_placed {v} {w} {from} {end} h l t =
    numbers_tabulate w from end h (omega (arith, t.outside.long))
    ∙ tabulate_same (λ j. get_or w (from + j) 0) (λ j. placed_number v (get_or v (from + j) 0)) (end - from)
    (λ j m. t.at (from + j) (omega arith) (omega arith))
    ∙ tabulate_image (placed_number v) (λ j. get_or v (from + j) 0) (end - from)
    ∙ ap (map (placed_number v)) (sym (numbers_tabulate v from end h l))

module _ {v : List ℕ} {id : ℕ} (l : work_end ≤ length v) (r : MovesReady v id) where
  -- every number of the part has an id that has a place
  pub moves_fit : (k : ℕ) → moves_at + span_first v id ≤ k → k < moves_at + span_first v id + span_total v id → TargetFits v (get_or v k 0)
  moves_fit k p q =
      r.numbers.fit (get_or v k 0)
      (numbers_at_lem v (moves_at + span_first v id) (moves_at + span_first v id + span_total v id) (omega arith) (omega (arith, r.within)) k p q)

  module _ {u : List ℕ} (t : TargetsPlaced v (moves_at + span_first v id) (moves_at + span_first v id + span_total v id) u) where
    placed_part : part_by v u id ≡ map (placed_number v) (span_numbers v id)
    placed_part = numbers_placed (omega arith) (omega (arith, r.within)) t

    pub moves_distinct : Distinct (part_by v u id)
    moves_distinct =
        subst (λ (ys : List ℕ). Distinct ys) (sym placed_part)
        (distinct_image (placed_number v) (span_numbers v id) r.numbers.apart
        (ascends_distinct number_order (span_numbers v id) r.numbers.ascending))

    pub moves_arranged : {w : List ℕ} → Sorted u (moves_at + span_first v id) (moves_at + span_first v id + span_total v id) w
        → MovesArranged v id w
    moves_arranged s =
        record {
          numbers = s.numbers ∙ ap (arrange number_order.before) placed_part;
          outside = outside_again t.outside s.outside;
        }

-- ---- one member after another
module _ {v w : List ℕ} {n i : ℕ} (a : AllArranged v n i w) (r : AllReady v n) (h : i < n) where
  same_span : get_or w (spans_at + i) 0 ≡ get_or v (spans_at + i) 0
  same_span = a.outside.at (spans_at + i) (inl (omega (arith, r.room)))

  -- the part by the spans of either
  same_part : (u : List ℕ) → part_by w u i ≡ part_by v u i
  same_part u = ap (λ (s : ℕ). numbers_in u (moves_at + (s - 1) / 65536) (moves_at + (s - 1) / 65536 + (s - 1) % 65536)) same_span

  same_numbers : span_numbers w i ≡ span_numbers v i
  same_numbers = same_part w ∙ a.left i (omega arith) h

  module _ {u : List ℕ} (m : MovesArranged w i u) where
    only_part : SameOutside (moves_at + span_first v i) (moves_at + span_first v i + span_total v i) w u
    only_part =
        subst (λ (s : ℕ). SameOutside (moves_at + (s - 1) / 65536) (moves_at + (s - 1) / 65536 + (s - 1) % 65536) w u) same_span m.outside

    done : part_by v u i ≡ placed_numbers v i
    done =
        sym (same_part u) ∙ m.numbers
        ∙ ap (λ (ys : List ℕ). arrange number_order.before (map (placed_number w) ys)) same_numbers
        ∙ ap (arrange number_order.before)
        (map_alike (placed_number w) (placed_number v) (span_numbers v i) (λ y k. placed_outside a.outside (omega arith) y))

    apart : (id : ℕ) → SpansApart v id i
        → (moves_at + span_first v id + span_total v id ≤ moves_at + span_first v i)
        ⊎ (moves_at + span_first v i + span_total v i ≤ moves_at + span_first v id)
    apart id (inl s) = inl (omega arith)
    apart id (inr s) = inr (omega arith)

    others : (id : ℕ) → id < n → (id ≡ i → ⊥) → part_by v u id ≡ part_by v w id
    others id l d =
        numbers_outside (moves_at + span_first v id) (moves_at + span_first v id + span_total v id) (apart id (r.apart id i l h d)) only_part

    pub all_more : AllArranged v n (i + 1) u
    all_more =
        record {
          arranged = λ id l. go id l (ltb id i) refl;
          left = λ id k l. others id l (omega arith) ∙ a.left id (omega arith) l;
          outside =
              outside_again a.outside
              (outside_wider only_part moves_at members_at (omega arith) (omega (arith, (r.ready i h).within)));
        }
      where
        go : (id : ℕ) → id < i + 1 → (b : Bool) → ltb id i ≡ b → part_by v u id ≡ placed_numbers v id
        go id l true e =
            let s : id < i = ltb-true id i e in
            others id (omega arith) (omega arith) ∙ a.arranged id s
        go id l false e =
            let q : i ≡ id = omega (arith, ltb-false id i e) in
            subst (λ (z : ℕ). part_by v u z ≡ placed_numbers v z) q done
