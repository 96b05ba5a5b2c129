-- The steps one after another: each asks what those before it leave, and all together arrange the set.
use Rattle.std.specs.Prelude.{◌≡◌, refl, ◌⊎◌, ℕ, ◌+◌, ◌*◌, ◌-◌, ◌/◌, ◌%◌, ◌≤◌, ◌<◌, get_or, drop}
use Rattle.std.proofs.Common.{sym, ap, ap₂, ◌∙◌, subst, inl, inr, arith, get_or-take, get_or-drop}
use mathlib.Core.List.{List, map, Memᴰ}
use Rattle.number_lists.specs.Members.{mem_map, map_mem}
use Rattle.number_lists.specs.Lists.{Ascends, arrange}
use Rattle.number_lists.specs.AscendingLaws.{arrange_ascends, arrange_keeps, arrange_only, number_order}
use Rattle.number_lists.specs.Frames.{SameOutside, outside_again, outside_wider}
use Rattle.member_table.specs.Sheet.{Configuration}
use Rattle.member_table.specs.Orders.{Move}
use Rattle.number_lists.specs.NumberLists.{numbers_in}
use Rattle.number_lists.specs.NumberLaws.{numbers_outside}
use Rattle.member_table.specs.Packing.{unpacked, Packed}
use Rattle.member_table.specs.MemberTable.{member_in, id_in, placed_in, Kept}
use Rattle.member_table.specs.TableInPart.{part_outside}
use Rattle.member_table.specs.MemberLaws.{ids_apart, id_placed}
use Rattle.collected_moves.specs.CollectedMoves.{member_part, move_in_lem}
use Rattle.work_layout.specs.SetLayout.{member_at, first_move, move_total, move_numbers_at, move_from, moves_held_at}
use Rattle.set_order.specs.OrderedSet.{span_first, span_total, span_numbers, span_moves, Discovered, Arranged}
use Rattle.set_order.specs.SetOrderSteps.{IdsPlaced, placed_number, NumbersReady, AllReady, AllArranged, SpansKept, AllAside, Copied}
use Rattle.work_layout.specs.WorkLayout.{work_end, table_length, spans_at, moves_at, members_at, places_at, spare_members_at, spare_spans_at, member_room, move_room}

-- two spans, as they are stored, stand apart
abbrev Apart : ℕ → ℕ → Type 0
Apart s t =
    ((s - 1) / 65536 + (s - 1) % 65536 ≤ (t - 1) / 65536) ⊎ ((t - 1) / 65536 + (t - 1) % 65536 ≤ (s - 1) / 65536)

-- the numbers of a part that a stored span tells
abbrev told : List ℕ → ℕ → List ℕ
told w s = numbers_in w (moves_at + s / 65536) (moves_at + s / 65536 + s % 65536)

module _ {v : List ℕ} {n m : ℕ} (d : Discovered v n m) {w₁ : List ℕ} (p : IdsPlaced v n w₁) where
  room : n ≤ member_room
  room = d.kept.room

  -- the place that stands by an id
  id_place : (id : ℕ) → id < n → (j : ℕ) × (j < n) × (id ≡ id_in (member_part v) j) × (get_or w₁ (places_at + id) 0 ≡ j)
  id_place id h =
      let a = id_placed (member_part v) n d.kept id h in
      (a.0, a.1, a.2, ap (λ (z : ℕ). get_or w₁ (places_at + z) 0) a.2 ∙ p.at a.0 a.1)

  same_span : (id : ℕ) → id < n → get_or w₁ (spans_at + id) 0 ≡ get_or v (spans_at + id) 0
  same_span id h = p.outside.at (spans_at + id) (inl (omega (arith, room)))

  same_numbers : (id : ℕ) → id < n → span_numbers w₁ id ≡ span_numbers v id
  same_numbers id h =
      ap (λ (s : ℕ). told w₁ (s - 1)) (same_span id h)
      ∙ numbers_outside (moves_at + span_first v id) (moves_at + span_first v id + span_total v id)
      (inl (omega (arith, (d.spans id h).within, d.few))) p.outside

  -- ---- what the later steps ask
  numbers_fit : (id : ℕ) → id < n → NumbersReady w₁ (span_numbers v id)
  numbers_fit id h =
      let f = d.spans id h in
      record {
        ascending = f.ascending;
        fit = λ y k.
            let a = id_place (y % 65536) (f.ids y k) in
            record { id = omega (arith, f.ids y k, room); place = omega (arith, a.1, a.3, room) };
        apart = λ y z k l e.
            let a = id_place (y % 65536) (f.ids y k) in
            let b = id_place (z % 65536) (f.ids z l) in
            let q : a.0 ≡ b.0 = omega (arith, room, a.1, a.3, b.1, b.3, e) in
            let r : y % 65536 ≡ z % 65536 = a.2 ∙ ap (id_in (member_part v)) q ∙ sym b.2 in
            omega (arith, room, a.1, a.3, b.1, b.3, e);
      }

  pub ids_ready : AllReady w₁ n
  ids_ready =
      record {
        long = omega (arith, d.long, p.outside.long);
        room = room;
        ready = λ id h. record {
          explored = omega (arith, same_span id h, (d.spans id h).explored);
          within =
              subst (λ (s : ℕ). (s - 1) / 65536 + (s - 1) % 65536 ≤ move_room) (sym (same_span id h)) (omega (arith, (d.spans id h).within, d.few));
          numbers = subst (λ (ys : List ℕ). NumbersReady w₁ ys) (sym (same_numbers id h)) (numbers_fit id h);
        };
        apart = λ i j h l e.
            subst (λ (s : ℕ). Apart s (get_or w₁ (spans_at + j) 0)) (sym (same_span i h))
            (subst (λ (t : ℕ). Apart (get_or v (spans_at + i) 0) t) (sym (same_span j l)) (d.apart i j h l e));
      }

  module _ {w₂ : List ℕ} (a : AllArranged w₁ n n w₂) where
    span_kept : (id : ℕ) → id < n → get_or w₂ (spans_at + id) 0 ≡ get_or v (spans_at + id) 0
    span_kept id h = a.outside.at (spans_at + id) (inl (omega (arith, room))) ∙ same_span id h

    part_kept : member_part w₂ ≡ member_part v
    part_kept = part_outside a.outside members_at (inr (omega arith)) ∙ part_outside p.outside members_at (inl (omega arith))

    pub spans_kept : SpansKept w₂ n
    spans_kept =
        record {
          long = omega (arith, d.long, p.outside.long, a.outside.long);
          kept = subst (λ (l : List ℕ). Kept l n) (sym part_kept) d.kept;
          explored = λ id h. omega (arith, span_kept id h, (d.spans id h).explored);
        }

    -- ---- the whole
    module _ {w₃ w₄ w₅ : List ℕ} (b : AllAside w₂ n w₃)
        (f : Copied w₃ spare_members_at members_at (3 * n) w₄) (g : Copied w₄ spare_spans_at spans_at n w₅) where
      -- the id at a place of the order
      abbrev ident : ℕ → ℕ
      ident j = id_in (member_part v) j

      ident_low : (j : ℕ) → j < n → ident j < n
      ident_low j h = d.kept.ids j h

      -- a member's number, from where it stood to where it stands
      carried : (x y z k l : ℕ) → x ≡ members_at + k → y ≡ spare_members_at + k → z ≡ members_at + l → k < 3 * n → l < table_length
          → get_or w₃ y 0 ≡ get_or w₂ z 0 → get_or w₅ x 0 ≡ get_or (member_part v) l 0
      carried x y z k l ex ey ez hk hl e =
          ap (λ (i : ℕ). get_or w₅ i 0) ex
          ∙ g.outside.at (members_at + k) (inr (omega (arith, room))) ∙ f.at k hk
          ∙ ap (λ (i : ℕ). get_or w₃ i 0) (sym ey) ∙ e ∙ ap (λ (i : ℕ). get_or w₂ i 0) ez
          ∙ a.outside.at (members_at + l) (inr (omega arith)) ∙ p.outside.at (members_at + l) (inl (omega arith))
          ∙ sym (get_or-take table_length (drop members_at v) l 0 hl ∙ get_or-drop members_at v l 0)

      first : (j : ℕ) → j < n → get_or w₅ (members_at + 3 * j) 0 ≡ get_or (member_part v) (3 * ident j) 0
      first j h =
          carried (members_at + 3 * j) (spare_members_at + 3 * j) (members_at + 3 * ident j) (3 * j) (3 * ident j) refl refl refl
          (omega arith) (omega (arith, ident_low j h, room))
          (b.first j h ∙ ap (λ (l : List ℕ). get_or w₂ (members_at + 3 * id_in l j) 0) part_kept)

      second : (j : ℕ) → j < n → get_or w₅ (members_at + 3 * j + 1) 0 ≡ get_or (member_part v) (3 * ident j + 1) 0
      second j h =
          carried (members_at + 3 * j + 1) (spare_members_at + 3 * j + 1) (members_at + 3 * ident j + 1) (3 * j + 1) (3 * ident j + 1)
          (omega arith) (omega arith) (omega arith) (omega arith) (omega (arith, ident_low j h, room))
          (b.second j h ∙ ap (λ (l : List ℕ). get_or w₂ (members_at + 3 * id_in l j + 1) 0) part_kept)

      third : (j : ℕ) → j < n → get_or w₅ (members_at + 3 * j + 2) 0 ≡ get_or (member_part v) (3 * ident j + 2) 0
      third j h =
          carried (members_at + 3 * j + 2) (spare_members_at + 3 * j + 2) (members_at + 3 * ident j + 2) (3 * j + 2) (3 * ident j + 2)
          (omega arith) (omega arith) (omega arith) (omega arith) (omega (arith, ident_low j h, room))
          (b.third j h ∙ ap (λ (l : List ℕ). get_or w₂ (members_at + 3 * id_in l j + 2) 0) part_kept)

      member : (j : ℕ) → j < n → member_at w₅ j ≡ placed_in (member_part v) j
      member j h =
          ap (λ (x : ℕ). unpacked x (get_or w₅ (members_at + 3 * j + 1) 0) (get_or w₅ (members_at + 3 * j + 2) 0)) (first j h)
          ∙ ap₂ (λ (y z : ℕ). unpacked (get_or (member_part v) (3 * ident j) 0) y z) (second j h) (third j h)

      packed : (j : ℕ) → j < n → Packed (get_or w₅ (members_at + 3 * j) 0) (get_or w₅ (members_at + 3 * j + 1) 0) (get_or w₅ (members_at + 3 * j + 2) 0)
      packed j h =
          subst (λ (x : ℕ). Packed x (get_or w₅ (members_at + 3 * j + 1) 0) (get_or w₅ (members_at + 3 * j + 2) 0)) (sym (first j h))
          (subst (λ (y : ℕ). Packed (get_or (member_part v) (3 * ident j) 0) y (get_or w₅ (members_at + 3 * j + 2) 0)) (sym (second j h))
          (subst (λ (z : ℕ). Packed (get_or (member_part v) (3 * ident j) 0) (get_or (member_part v) (3 * ident j + 1) 0) z) (sym (third j h))
          (d.kept.packed (ident j) (ident_low j h))))

      -- the span at a place is that of the id there, without the one
      span : (j : ℕ) → j < n → get_or w₅ (spans_at + j) 0 ≡ get_or v (spans_at + ident j) 0 - 1
      span j h =
          g.at j h ∙ f.outside.at (spare_spans_at + j) (inr (omega (arith, room))) ∙ b.span j h
          ∙ ap (λ (l : List ℕ). get_or w₂ (spans_at + id_in l j) 0 - 1) part_kept
          ∙ ap (λ (z : ℕ). z - 1) (span_kept (ident j) (ident_low j h))

      numbers : (j : ℕ) → j < n → move_numbers_at w₅ j ≡ arrange number_order.before (map (placed_number w₁) (span_numbers v (ident j)))
      numbers j h =
          let id : ℕ = ident j in
          let l : id < n = ident_low j h in
          let from : ℕ = moves_at + span_first v id in
          let end : ℕ = moves_at + span_first v id + span_total v id in
          let c : end ≤ members_at = omega (arith, (d.spans id l).within, d.few) in
          ap (told w₅) (span j h)
          ∙ numbers_outside from end (inr (omega (arith, room))) g.outside
          ∙ numbers_outside from end (inl c) f.outside
          ∙ numbers_outside from end (inl (omega arith)) b.outside
          ∙ sym (ap (λ (s : ℕ). told w₂ (s - 1)) (same_span id l))
          ∙ a.arranged id l
          ∙ ap (λ (ys : List ℕ). arrange number_order.before (map (placed_number w₁) ys)) (same_numbers id l)

      -- a number with a place for its id stands for the same move
      placed_move : (y : ℕ) → y % 65536 < n → move_from w₅ (placed_number w₁ y) ≡ move_in_lem v y
      placed_move y h =
          let i = id_place (y % 65536) h in
          let label : placed_number w₁ y / 65536 ≡ y / 65536 = omega (arith, room, i.1, i.3) in
          let place : placed_number w₁ y % 65536 ≡ i.0 = omega (arith, room, i.1, i.3) in
          ap₂ (λ (x : ℕ) (t : Configuration). record { label = x; target = t }) label
          (ap (member_at w₅) place ∙ member i.0 i.1 ∙ ap (member_in (member_part v)) (sym i.2))

      -- a number of a place's moves is one of its member's, with a place for its id
      number_from : (j y : ℕ) → j < n → Memᴰ y (move_numbers_at w₅ j)
          → (z : ℕ) × Memᴰ z (span_numbers v (ident j)) × (y ≡ placed_number w₁ z)
      number_from j y h k =
          mem_map (placed_number w₁) (span_numbers v (ident j))
          (arrange_only number_order (map (placed_number w₁) (span_numbers v (ident j))) (subst (λ (ys : List ℕ). Memᴰ y ys) (numbers j h) k))

      number_to : (j z : ℕ) → j < n → Memᴰ z (span_numbers v (ident j)) → Memᴰ (placed_number w₁ z) (move_numbers_at w₅ j)
      number_to j z h k =
          subst (λ (ys : List ℕ). Memᴰ (placed_number w₁ z) ys) (sym (numbers j h))
          (arrange_keeps number_order (map (placed_number w₁) (span_numbers v (ident j))) (map_mem (placed_number w₁) k))

      -- the id of a move of the member at a place
      target_low : (j z : ℕ) → j < n → Memᴰ z (span_numbers v (ident j)) → z % 65536 < n
      target_low j z h k = (d.spans (ident j) (ident_low j h)).ids z k

      move_from_lem : (j : ℕ) → j < n → (k : Move) → Memᴰ k (moves_held_at w₅ j) → Memᴰ k (span_moves v (ident j))
      move_from_lem j h k i =
          let y = mem_map (move_from w₅) (move_numbers_at w₅ j) i in
          let z = number_from j y.0 h y.1 in
          subst (λ (t : Move). Memᴰ t (span_moves v (ident j)))
          (sym (y.2 ∙ ap (move_from w₅) z.2 ∙ placed_move z.0 (target_low j z.0 h z.1))) (map_mem (move_in_lem v) z.1)

      move_to : (j : ℕ) → j < n → (k : Move) → Memᴰ k (span_moves v (ident j)) → Memᴰ k (moves_held_at w₅ j)
      move_to j h k i =
          let z = mem_map (move_in_lem v) (span_numbers v (ident j)) i in
          subst (λ (t : Move). Memᴰ t (moves_held_at w₅ j)) (sym (z.2 ∙ sym (placed_move z.0 (target_low j z.0 h z.1))))
          (map_mem (move_from w₅) (number_to j z.0 h z.1))

      target : (j y : ℕ) → j < n → Memᴰ y (move_numbers_at w₅ j) → y % 65536 < n
      target j y h k =
          let z = number_from j y h k in
          let i = id_place (z.0 % 65536) (target_low j z.0 h z.1) in
          omega (arith, room, z.2, i.1, i.3)

      whole : SameOutside spans_at work_end v w₅
      whole =
          outside_again (outside_wider p.outside spans_at work_end (omega arith) (omega arith))
          (outside_again (outside_wider a.outside spans_at work_end (omega arith) (omega arith))
          (outside_again (outside_wider b.outside spans_at work_end (omega arith) (omega arith))
          (outside_again (outside_wider f.outside spans_at work_end (omega arith) (omega (arith, room)))
          (outside_wider g.outside spans_at work_end (omega arith) (omega (arith, room))))))

      pub arranged_whole : Arranged v n m w₅
      arranged_whole =
          record {
            members = member;
            packed = packed;
            spans = λ j h.
                subst (λ (s : ℕ). s / 65536 + s % 65536 ≤ m) (sym (span j h)) (d.spans (ident j) (ident_low j h)).within;
            apart = λ i j h l e.
                subst (λ (s : ℕ). (s / 65536 + s % 65536 ≤ first_move w₅ j) ⊎ (first_move w₅ j + move_total w₅ j ≤ s / 65536)) (sym (span i h))
                (subst (λ (t : ℕ). (span_first v (ident i) + span_total v (ident i) ≤ t / 65536) ⊎ (t / 65536 + t % 65536 ≤ span_first v (ident i)))
                (sym (span j l)) (d.apart (ident i) (ident j) (ident_low i h) (ident_low j l)
                (λ q. e (ids_apart (member_part v) n d.kept i j h l q))));
            targets = target;
            ascending = λ j h.
                subst (Ascends number_order.before) (sym (numbers j h)) (arrange_ascends number_order (map (placed_number w₁) (span_numbers v (ident j))));
            moves_same = λ j h k. (move_from_lem j h k, move_to j h k);
            outside = whole;
          }
