-- The ways through the loops that copy and that put places for ids: each step keeps what was promised of those before it.
use Rattle.std.specs.Prelude.{◌≡◌, refl, ◌⊎◌, Bool, true, false, List, ℕ, ◌+◌, ◌*◌, ◌-◌, ◌/◌, ◌%◌, ◌≤◌, ◌<◌, length, get_or, set, ltb}
use Rattle.std.proofs.Common.{sym, ap, ◌∙◌, subst, inl, inr, arith, get_or-set_same, get_or-set_other, ltb-true, ltb-false}
use Rattle.std.specs.List.{CopiedTo, SameBelow, SameFrom}
use Rattle.number_lists.specs.Frames.{SameOutside, outside_set, outside_again}
use Rattle.member_table.specs.MemberTable.{id_in, Kept}
use Rattle.member_table.specs.TableInPart.{part_outside, kept_outside}
use Rattle.member_table.specs.MemberLaws.{ids_apart}
use Rattle.collected_moves.specs.CollectedMoves.{member_part}
use Rattle.set_order.specs.SetOrderSteps.{IdsPlaced, placed_number, CopiedAside, AllAside, SpansKept, Copied}
use Rattle.work_layout.specs.WorkLayout.{work_end, spans_at, members_at, places_at, spare_members_at, spare_spans_at, member_room}

-- ---- numbers copied
pub copied_within : (v w : List ℕ) (from k to : ℕ) → length w ≡ length v
    → CopiedTo v w from to (from + k - from) × SameBelow v w to × SameFrom v w (to + (from + k - from)) → Copied v from to k w
copied_within v w from k to l c =
    record {
      at = λ i h.
          let e : to + i - to ≡ i = omega arith in
          c.0 (to + i) 0 (omega arith) (omega arith) ∙ ap (λ (z : ℕ). get_or v (from + z) 0) e;
      outside =
          record {
            at = λ i o. elim o [ inl h ↦ c.1 i 0 h | inr h ↦ c.2 i 0 (omega arith) ];
            long = l;
          };
    }

-- ---- places for ids
-- a change before the places of ids leaves them alone
pub placed_outside : {a b : ℕ} {v w : List ℕ} → SameOutside a b v w → b ≤ places_at → (y : ℕ) → placed_number w y ≡ placed_number v y
placed_outside {a} {b} {v} {w} s h y = ap (λ (p : ℕ). y / 65536 * 65536 + p) (s.at (places_at + y % 65536) (inr (omega arith)))

-- ---- the places of ids
module _ {v w : List ℕ} {i : ℕ} (n : ℕ) (p : IdsPlaced v i w) (k : Kept (member_part v) n) (h : i < n) where
  pub ids_kept : Kept (member_part w) n
  ids_kept = kept_outside p.outside members_at n (inl (omega arith)) k

  ids_same : id_in (member_part w) i ≡ id_in (member_part v) i
  ids_same = ap (λ (l : List ℕ). id_in l i) (part_outside p.outside members_at (inl (omega arith)))

  pub ids_more : work_end ≤ length v → (id : ℕ) → id ≡ id_in (member_part w) i → IdsPlaced v (i + 1) (set w (places_at + id) i)
  ids_more l id e =
      let r : n ≤ member_room = k.room in
      let b : id_in (member_part v) i < n = k.ids i h in
      let q : id ≡ id_in (member_part v) i = e ∙ ids_same in
      record {
        at = λ j m. go r b q j m (ltb j i) refl;
        outside =
            outside_again p.outside
            (outside_set places_at (places_at + member_room) w (places_at + id) i (omega arith) (omega (arith, k.room, k.ids i h, e ∙ ids_same)));
      }
    where
      go : n ≤ member_room → id_in (member_part v) i < n → id ≡ id_in (member_part v) i → (j : ℕ) → j < i + 1 → (b : Bool) → ltb j i ≡ b
          → get_or (set w (places_at + id) i) (places_at + id_in (member_part v) j) 0 ≡ j
      go r b q j m true z =
          let s : j < i = ltb-true j i z in
          get_or-set_other w (places_at + id) (places_at + id_in (member_part v) j) i 0 (other s) ∙ p.at j s
        where
          other : j < i → places_at + id_in (member_part v) j ≡ places_at + id → ⊥
          other s a =
              let d : id_in (member_part v) j ≡ id_in (member_part v) i = omega arith in
              let f : j ≡ i = ids_apart (member_part v) n k j i (omega arith) h d in
              omega arith
      go r b q j m false z =
          let f : j ≡ i = omega (arith, ltb-false j i z) in
          ap (λ (s : ℕ). get_or (set w (places_at + id) i) (places_at + s) 0) (ap (id_in (member_part v)) f ∙ sym q)
          ∙ get_or-set_same w (places_at + id) i 0 (omega (arith, p.outside.long)) ∙ sym f

-- ---- members and spans copied aside
module _ {v w : List ℕ} {i : ℕ} (n : ℕ) (a : AllAside v i w) (k : SpansKept v n) (h : i < n) where
  pub aside_kept : SpansKept w n
  aside_kept =
      record {
        long = omega (arith, a.outside.long, k.long);
        kept = kept_outside a.outside members_at n (inl (omega arith)) k.kept;
        explored = λ id l.
            let r : n ≤ member_room = k.kept.room in
            omega (arith, k.explored id l, a.outside.at (spans_at + id) (inl (omega arith)));
      }

  module _ {u : List ℕ} (c : CopiedAside w i u) where
    few : n ≤ member_room
    few = k.kept.room

    same_id : id_in (member_part w) i ≡ id_in (member_part v) i
    same_id = ap (λ (l : List ℕ). id_in l i) (part_outside a.outside members_at (inl (omega arith)))

    low_id : id_in (member_part w) i < n
    low_id = subst (λ (z : ℕ). z < n) (sym same_id) (k.kept.ids i h)

    -- what stands before the spare places is as it was
    before : (f : ℕ → ℕ) → f (id_in (member_part w) i) < spare_members_at → get_or w (f (id_in (member_part w) i)) 0 ≡ get_or v (f (id_in (member_part v) i)) 0
    before f l = a.outside.at (f (id_in (member_part w) i)) (inl l) ∙ ap (λ (z : ℕ). get_or v (f z) 0) same_id

    -- a place of the spare part: stored now, or before
    step : (at : ℕ → ℕ) (want : ℕ → ℕ) → get_or u (at i) 0 ≡ want i → ((j : ℕ) → j < i → get_or w (at j) 0 ≡ want j)
        → ((j : ℕ) → j < i → get_or u (at j) 0 ≡ get_or w (at j) 0) → (j : ℕ) → j < i + 1 → get_or u (at j) 0 ≡ want j
    step at want now old same j m = go (ltb j i) refl
      where
        go : (b : Bool) → ltb j i ≡ b → get_or u (at j) 0 ≡ want j
        go true e = let s : j < i = ltb-true j i e in same j s ∙ old j s
        go false e =
            let q : j ≡ i = omega (arith, ltb-false j i e) in
            ap (λ (z : ℕ). get_or u (at z) 0) q ∙ now ∙ ap want (sym q)

    rest : (z : ℕ) → (z < spare_members_at) ⊎ (work_end ≤ z) → get_or u z 0 ≡ get_or w z 0
    rest z (inl l) = c.others z (inl (omega arith)) (omega (arith, few))
    rest z (inr l) = c.others z (inr (omega (arith, few))) (omega (arith, few))

    pub aside_more : AllAside v (i + 1) u
    aside_more =
        let r : n ≤ member_room = few in
        let b : id_in (member_part w) i < n = low_id in
        record {
          first =
              step (λ j. spare_members_at + 3 * j) (λ j. get_or v (members_at + 3 * id_in (member_part v) j) 0)
              (c.first ∙ before (λ z. members_at + 3 * z) (omega arith)) a.first
              (λ j s. c.others (spare_members_at + 3 * j) (inl (omega arith)) (omega arith));
          second =
              step (λ j. spare_members_at + 3 * j + 1) (λ j. get_or v (members_at + 3 * id_in (member_part v) j + 1) 0)
              (c.second ∙ before (λ z. members_at + 3 * z + 1) (omega arith)) a.second
              (λ j s. c.others (spare_members_at + 3 * j + 1) (inl (omega arith)) (omega arith));
          third =
              step (λ j. spare_members_at + 3 * j + 2) (λ j. get_or v (members_at + 3 * id_in (member_part v) j + 2) 0)
              (c.third ∙ before (λ z. members_at + 3 * z + 2) (omega arith)) a.third
              (λ j s. c.others (spare_members_at + 3 * j + 2) (inl (omega arith)) (omega arith));
          span =
              step (λ j. spare_spans_at + j) (λ j. get_or v (spans_at + id_in (member_part v) j) 0 - 1)
              (c.span ∙ ap (λ (z : ℕ). z - 1) (before (λ z. spans_at + z) (omega arith))) a.span
              (λ j s. c.others (spare_spans_at + j) (inr (omega arith)) (omega arith));
          outside = outside_again a.outside (record { long = c.long; at = rest });
        }
