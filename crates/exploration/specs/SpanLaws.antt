-- The spans after a member's moves were collected and its span stored: its own has the moves collected, the others are the same.
use Rattle.std.specs.Prelude.{◌≡◌, refl, ◌⊎◌, Bool, true, false, ℕ, ◌+◌, ◌-◌, ◌/◌, ◌%◌, ◌≤◌, ◌<◌, length, get_or, set, eqb, ltb}
use Rattle.std.proofs.Common.{sym, ap, ap₂, ◌∙◌, subst, inl, inr, ⊎_elim, arith, length-set, get_or-set_same, get_or-set_other, eqb-true, ltb-true, ltb-false}
use mathlib.Core.List.{List, [], ◌∷◌, map, Memᴰ}
use Rattle.std.proofs.lemmas.Bool.{eqb-false}
use Rattle.work_layout.specs.Lists.{Ascends}
use Rattle.work_layout.specs.Frames.{SameOutside, outside_set, outside_wider, outside_again}
use Rattle.sheet_types.specs.Sheet.{Configuration}
use Rattle.sheet_types.specs.AscendingLaws.{number_order}
use Rattle.work_layout.specs.NumberLists.{numbers_in}
use Rattle.collected_moves.specs.NumberLaws.{numbers_same}
use Rattle.ask_labels.specs.LabelScanLaws.{table_agree}
use Rattle.ask_labels.specs.LabelShelfLaws.{sets_few}
use Rattle.member_table.specs.MemberTable.{member_in, id_in, members_in, Kept}
use Rattle.member_table.specs.TableInPart.{part_outside}
use Rattle.collected_moves.specs.declared.Running.{Running}
use Rattle.collected_moves.specs.CollectedMoves.{Grown, member_part, members_of, moves_of, move_in_lem, move_numbers}
use Rattle.collected_moves.specs.CollectedLaws.{collecting_empty, move_same, move_of}
use Rattle.walk_state.specs.SetGrowthLaws.{grown_member}
use Rattle.walk_state.specs.WalkState.{MemberFits}
use Rattle.third_rule.specs.ThirdRule.{Standing}
use Rattle.set_order.specs.OrderedSet.{span_first, span_total, span_numbers, span_moves, SpanFits}
use Rattle.exploration.specs.declared.Plan.{Plan}
use Rattle.unexplored_members.specs.UnexploredMembers.{span_of, IsExplored}
use Rattle.exploration.specs.Exploration.{basis_of, Exploring}
use Rattle.work_layout.specs.WorkLayout.{work_end, spans_at, moves_at, members_at, move_room, member_room}

-- maps that agree on the elements of a list give the same list
map_agree : {A B : Type 0} (f h : A → B) (xs : List A) → ((a : A) → Memᴰ a xs → f a ≡ h a) → map f xs ≡ map h xs
map_agree f h [] e = refl
map_agree {A} {B} f h (x ∷ xs) e =
    ap₂ (λ (b : B) (l : List B). b ∷ l) (e x (Memᴰ.head refl)) (map_agree f h xs (λ a m. e a (Memᴰ.tail m)))

-- what fits does not depend on the store or on where moves begin
pub fits_carried : {plan : Plan} {x : Configuration} (d f d' f' : ℕ) → MemberFits (basis_of plan d f) x → MemberFits (basis_of plan d' f') x
fits_carried d f d' f' m =
    record {
      store = m.store;
      threads = record { few = m.threads.few; ascending = m.threads.ascending; nodes = m.threads.nodes };
    }

-- where a span says that moves begin, and how many there are
span_first_lem : (first end : ℕ) → first ≤ end → end ≤ move_room → (span_of first end - 1) / 65536 ≡ first
span_first_lem first end h k = omega arith

span_total_lem : (first end : ℕ) → first ≤ end → end ≤ move_room → (span_of first end - 1) % 65536 ≡ end - first
span_total_lem first end h k = omega arith

module _ (plan : Plan) (v : List ℕ) (s : Running) (id : ℕ) (ex : Exploring v plan s) (low : id < s.members)
    (d : ℕ) (z : List ℕ) (u : Running) (grown : Grown v s.moves s z u) (standing : Standing z (basis_of plan d s.moves) u) where
  -- the slice with the member's span
  abbrev pub spanned : List ℕ
  spanned = set z (spans_at + id) (span_of s.moves u.moves)

  ends : (s.moves ≤ u.moves) × (u.moves ≤ move_room)
  ends = (standing.collecting.room.1, omega (arith, standing.collecting.room.2, standing.collecting.caps.1))

  few : (s.members ≤ member_room) × (u.members ≤ member_room) × (id < member_room)
  few = (ex.collecting.kept.room, standing.collecting.kept.room, omega (arith, ex.collecting.kept.room))

  -- ---- the numbers of the slice
  stored : get_or spanned (spans_at + id) 0 ≡ span_of s.moves u.moves
  stored = get_or-set_same z (spans_at + id) (span_of s.moves u.moves) 0 (omega (arith, few.2, standing.collecting.long))

  besides : (i : ℕ) → (i ≡ spans_at + id → ⊥) → get_or spanned i 0 ≡ get_or z i 0
  besides i h = get_or-set_other z (spans_at + id) i (span_of s.moves u.moves) 0 h

  earlier : (i : ℕ) → i < moves_at + s.moves → (i ≡ spans_at + id → ⊥) → get_or spanned i 0 ≡ get_or v i 0
  earlier i h k = besides i k ∙ grown.outside.at i (inl h)

  long_same : length spanned ≡ length v
  long_same = length-set z (spans_at + id) (span_of s.moves u.moves) ∙ grown.outside.long

  pub other_span : (i : ℕ) → i < member_room → (i ≡ id → ⊥) → get_or spanned (spans_at + i) 0 ≡ get_or v (spans_at + i) 0
  other_span i h k = earlier (spans_at + i) (omega arith) (λ e. k (omega arith))

  pub span_outside : SameOutside spans_at (spans_at + member_room) z spanned
  span_outside = outside_set spans_at (spans_at + member_room) z (spans_at + id) (span_of s.moves u.moves) (omega arith) (omega (arith, few.2))

  pub spanned_outside : SameOutside spans_at work_end v spanned
  spanned_outside =
      outside_again (outside_wider grown.outside spans_at work_end (omega arith) (omega arith))
      (outside_wider span_outside spans_at work_end (omega arith) (omega arith))

  -- ---- members
  pub part_spanned : member_part spanned ≡ member_part z
  part_spanned = part_outside span_outside members_at (inr (omega arith))

  pub members_spanned : members_of spanned u ≡ members_of z u
  members_spanned = ap (λ (l : List ℕ). members_in l u.members) part_spanned

  pub member_spanned : (i : ℕ) → i < s.members → member_in (member_part spanned) i ≡ member_in (member_part v) i
  member_spanned i h = ap (λ (l : List ℕ). member_in l i) part_spanned ∙ grown_member grown i h

  firsts_spanned : members_in (member_part spanned) s.members ≡ members_in (member_part v) s.members
  firsts_spanned = ap (λ (l : List ℕ). members_in l s.members) part_spanned ∙ grown.members_same

  -- ---- which members are explored
  pub now_explored : IsExplored spanned id
  now_explored = omega (arith, stored)

  pub still_explored : (i : ℕ) → i < member_room → IsExplored v i → IsExplored spanned i
  still_explored i h e = go (eqb i id) refl
    where
      go : (b : Bool) → eqb i id ≡ b → IsExplored spanned i
      go true q = subst (λ (n : ℕ). IsExplored spanned n) (sym (eqb-true i id q)) now_explored
      go false q = omega (arith, other_span i h (eqb-false i id q), e)

  -- a member explored now that was not in hand was explored before
  pub explored_before : (i : ℕ) → i < u.members → IsExplored spanned i → (i ≡ id → ⊥) → (i < s.members) × IsExplored v i
  explored_before i h e n =
      let q : IsExplored v i = omega (arith, other_span i (omega (arith, few.1)) n, e) in
      (go q (ltb i s.members) refl, q)
    where
      go : IsExplored v i → (b : Bool) → ltb i s.members ≡ b → i < s.members
      go q true r = ltb-true i s.members r
      go q false r = absurd (omega (arith, q, ex.unused i (ltb-false i s.members r) (omega (arith, few.1))))

  -- an explored member has its span
  has_span : (i : ℕ) → i < s.members → IsExplored v i → SpanFits v s.members s.moves i
  has_span i h e =
      ⊎_elim (λ (q : get_or v (spans_at + i) 0 ≡ 0). absurd (omega (arith, q, e))) (λ (q : SpanFits v s.members s.moves i). q) (ex.spans i h)

  -- ---- the span of the member in hand
  own_first : span_first spanned id ≡ s.moves
  own_first = ap (λ (n : ℕ). (n - 1) / 65536) stored ∙ span_first_lem s.moves u.moves ends.0 ends.1

  own_total : span_total spanned id ≡ u.moves - s.moves
  own_total = ap (λ (n : ℕ). (n - 1) % 65536) stored ∙ span_total_lem s.moves u.moves ends.0 ends.1

  own_numbers : span_numbers spanned id ≡ move_numbers z s.moves u.moves
  own_numbers =
      let a : moves_at + span_first spanned id ≡ moves_at + s.moves = omega (arith, own_first) in
      let b : moves_at + span_first spanned id + span_total spanned id ≡ moves_at + u.moves = omega (arith, own_first, own_total, ends.0) in
      ap₂ (λ (m n : ℕ). numbers_in spanned m n) a b
      ∙ numbers_same z spanned (moves_at + s.moves) (moves_at + u.moves) span_outside.long (λ i h k. besides i (λ e. omega (arith, few.2)))

  pub own_moves : span_moves spanned id ≡ moves_of z s.moves u
  own_moves =
      ap (map (move_in_lem spanned)) own_numbers
      ∙ ap (λ (p : List ℕ). map (λ (y : ℕ). move_of (y / 65536) (member_in p (y % 65536))) (move_numbers z s.moves u.moves)) part_spanned

  own_span : SpanFits spanned u.members u.moves id
  own_span =
      record {
        explored = now_explored;
        within = omega (arith, own_first, own_total, ends.0);
        ascending = subst (Ascends number_order.before) (sym own_numbers) standing.collecting.ascending;
        ids = λ y m. standing.collecting.ids y (subst (Memᴰ y) own_numbers m);
      }

  -- ---- the spans of other members
  module _ (i : ℕ) (h : i < s.members) (n : i ≡ id → ⊥) where
    same_span : get_or spanned (spans_at + i) 0 ≡ get_or v (spans_at + i) 0
    same_span = other_span i (omega (arith, few.0)) n

    same_first : span_first spanned i ≡ span_first v i
    same_first = ap (λ (m : ℕ). (m - 1) / 65536) same_span

    same_total : span_total spanned i ≡ span_total v i
    same_total = ap (λ (m : ℕ). (m - 1) % 65536) same_span

    module _ (f : SpanFits v s.members s.moves i) where
      same_numbers : span_numbers spanned i ≡ span_numbers v i
      same_numbers =
          let a : moves_at + span_first spanned i ≡ moves_at + span_first v i = omega (arith, same_first) in
          let b : moves_at + span_first spanned i + span_total spanned i ≡ moves_at + span_first v i + span_total v i = omega (arith, same_first, same_total) in
          ap₂ (λ (m k : ℕ). numbers_in spanned m k) a b
          ∙ numbers_same v spanned (moves_at + span_first v i) (moves_at + span_first v i + span_total v i) long_same
          (λ j p q. earlier j (omega (arith, f.within)) (λ e. omega (arith, few.2)))

      same_moves : span_moves spanned i ≡ span_moves v i
      same_moves =
          ap (map (move_in_lem spanned)) same_numbers
          ∙ map_agree (move_in_lem spanned) (move_in_lem v) (span_numbers v i) (λ y m. move_same v spanned s.members firsts_spanned y (f.ids y m))

      same_fits : SpanFits spanned u.members u.moves i
      same_fits =
          record {
            explored = omega (arith, same_span, f.explored);
            within = omega (arith, same_first, same_total, f.within, ends.0);
            ascending = subst (Ascends number_order.before) (sym same_numbers) f.ascending;
            ids = λ y m. let k = f.ids y (subst (Memᴰ y) same_numbers m) in omega (arith, k, grown.members_grow);
          }

  -- the moves of another explored member are the same
  pub others_moves : (i : ℕ) → i < s.members → IsExplored v i → (i ≡ id → ⊥) → span_moves spanned i ≡ span_moves v i
  others_moves i h e n = same_moves i h n (has_span i h e)

  -- ---- all of them
  all_spans : (i : ℕ) → i < u.members → (get_or spanned (spans_at + i) 0 ≡ 0) ⊎ SpanFits spanned u.members u.moves i
  all_spans i h = go (eqb i id) refl (ltb i s.members) refl
    where
      go : (b : Bool) → eqb i id ≡ b → (t : Bool) → ltb i s.members ≡ t
          → (get_or spanned (spans_at + i) 0 ≡ 0) ⊎ SpanFits spanned u.members u.moves i
      go true q t r = inr (subst (SpanFits spanned u.members u.moves) (sym (eqb-true i id q)) own_span)
      go false q true r =
          let l : i < s.members = ltb-true i s.members r in
          let n : i ≡ id → ⊥ = eqb-false i id q in
          ⊎_elim (λ (x : get_or v (spans_at + i) 0 ≡ 0). inl (same_span i l n ∙ x))
          (λ (x : SpanFits v s.members s.moves i). inr (same_fits i l n x)) (ex.spans i l)
      go false q false r =
          inl (other_span i (omega (arith, few.1)) (eqb-false i id q)
          ∙ ex.unused i (ltb-false i s.members r) (omega (arith, few.1)))

  all_apart : (i j : ℕ) → i < u.members → j < u.members → IsExplored spanned i → IsExplored spanned j → (i ≡ j → ⊥)
      → (span_first spanned i + span_total spanned i ≤ span_first spanned j) ⊎ (span_first spanned j + span_total spanned j ≤ span_first spanned i)
  all_apart i j h k e f n = go (eqb i id) refl (eqb j id) refl
    where
      -- another member's moves end where those of the member in hand begin
      before : (m : ℕ) → m < u.members → IsExplored spanned m → (m ≡ id → ⊥)
          → span_first spanned m + span_total spanned m ≤ s.moves
      before m l x y =
          let q = explored_before m l x y in
          omega (arith, same_first m q.0 y, same_total m q.0 y, (has_span m q.0 q.1).within)

      own : (m : ℕ) → m ≡ id → span_first spanned m ≡ s.moves
      own m q = ap (span_first spanned) q ∙ own_first

      go : (a : Bool) → eqb i id ≡ a → (b : Bool) → eqb j id ≡ b
          → (span_first spanned i + span_total spanned i ≤ span_first spanned j) ⊎ (span_first spanned j + span_total spanned j ≤ span_first spanned i)
      go true p true q = absurd (n (eqb-true i id p ∙ sym (eqb-true j id q)))
      go true p false q = inr (omega (arith, own i (eqb-true i id p), before j k f (eqb-false j id q)))
      go false p true q = inl (omega (arith, own j (eqb-true j id q), before i h e (eqb-false i id p)))
      go false p false q =
          let x : i ≡ id → ⊥ = eqb-false i id p in
          let y : j ≡ id → ⊥ = eqb-false j id q in
          let a = explored_before i h e x in
          let b = explored_before j k f y in
          let i₁ = same_first i a.0 x in
          let i₂ = same_total i a.0 x in
          let j₁ = same_first j b.0 y in
          let j₂ = same_total j b.0 y in
          ⊎_elim (λ (o : span_first v i + span_total v i ≤ span_first v j). inl (omega arith))
          (λ (o : span_first v j + span_total v j ≤ span_first v i). inr (omega arith)) (ex.apart i j a.0 b.0 a.1 b.1 n)

  pub spanned_exploring : Exploring spanned plan u
  spanned_exploring =
      record {
        collecting =
            collecting_empty spanned u plan.caps (omega (arith, long_same, ex.collecting.long)) ex.collecting.caps
            (subst (λ (l : List ℕ). Kept l u.members) (sym part_spanned) standing.collecting.kept) standing.collecting.room.0
            standing.collecting.room.2;
        fit = λ x m. fits_carried d s.moves 0 0 (standing.fit x (subst (Memᴰ x) members_spanned m));
        few_facts = ex.few_facts;
        table = table_agree spanned ex.table (λ i l. let b = sets_few plan.facts ex.few_facts in earlier i (omega arith) (λ e. omega arith));
        spans = all_spans;
        unused = λ i h k.
            other_span i k (λ e. omega (arith, grown.members_grow)) ∙ ex.unused i (omega (arith, grown.members_grow)) k;
        apart = all_apart;
        low = λ j h.
            let a = grown.low j h in
            let b = ex.low j a.0 in
            let i : id_in (member_part spanned) j ≡ id_in (member_part v) j = ap (λ (l : List ℕ). id_in l j) part_spanned ∙ a.1 in (
              omega (arith, b.0, grown.members_grow),
              subst (λ (n : ℕ). IsExplored spanned n) (sym i)
                  (still_explored (id_in (member_part v) j) (omega (arith, few.0, ex.collecting.kept.ids j b.0)) b.1),
            );
      }
