-- Why all additions are made: a label strictly below another is a lower number, so moves with it stand before the first move
-- with the other; members that come in leave the moves as they are.
use Rattle.std.specs.Prelude.{◌≡◌, refl, ◌⊎◌, Bool, true, false, not, ◌||◌, ℕ, ◌+◌, ◌-◌, ◌/◌, ◌%◌, ◌^◌, ◌≤◌, ◌<◌, length, get_or, eqb, ltb}
use Rattle.std.proofs.Common.{sym, ap, ap₂, ◌∙◌, subst, inl, inr, ⊎_elim, arith, eqb-true, ltb-true, ltb-false}
use mathlib.Core.List.{List, Memᴰ}
use Rattle.std.specs.Int.Bits.{bit_and, bit_or}
use Rattle.std.proofs.lemmas.Nat.{or_lt}
use Rattle.std.proofs.lemmas.Bool.{eqb-false, not-true}
use Rattle.work_layout.specs.TestLaws.{true_false, or_false}
use Rattle.collected_moves.specs.TabulateLaws.{mem_tabulate}
use Rattle.move_entry.specs.Members.{mem_map, map_mem}
use Rattle.work_layout.specs.Frames.{SameOutside, outside_same, outside_again}
use Rattle.walk_state.specs.FactSets.{Within}
use Rattle.member_table.specs.FactSetLaws.{and_within, within_le}
use Rattle.work_layout.specs.Stores.{Closed, strictly_below, conclusions}
use Rattle.member_table.specs.StoreLaws.{below_within, within_below, within_join, closure_lt}
use Rattle.sheet_types.specs.Sheet as spec
use Rattle.member_table.specs.Orders.{Move}
use Rattle.member_table.specs.Moves.{add}
use Rattle.walk_state.specs.SheetMoves.{conclusions_fit}
use Rattle.sheet_types.specs.ClosureTable.{closure_at, closures_agree}
use Rattle.walk_state.specs.AskLabels.{TableOf}
use Rattle.walk_state.specs.LabelShelfLaws.{sets_few}
use Rattle.sheet_types.specs.declared.Configuration.{Configuration}
use Rattle.sheet_types.specs.HeldSheet.{configuration}
use Rattle.sheet_types.specs.AddedStore.{joined, joined_adds}
use Rattle.collected_moves.specs.NumberLaws.{numbers_at_lem, numbers_place, numbers_rise}
use Rattle.member_table.specs.MemberTable.{member_in}
use Rattle.collected_moves.specs.declared.Running.{Running}
use Rattle.std.specs.Prelude.{Option, Some, None}
use Rattle.collected_moves.specs.CollectedMoves.{member_part, members_of, move_in_lem, move_numbers, moves_of, EnteredOn, EnteredAs}
use Rattle.collected_moves.specs.CollectedLaws.{move_same, grown_refl, grown_trans}
use Rattle.walk_state.specs.SetGrowth.{Growth, InSet, InHand, Gathered}
use Rattle.walk_state.specs.SetGrowthLaws.{member_of_sheet, addition_in_set, grown_members, entered_moves, entered_gathered, no_room_for_passes}
use Rattle.walk_state.specs.declared.Basis.{Basis}
use Rattle.walk_state.specs.declared.Walk.{Walk}
use Rattle.walk_state.specs.WalkState.{MemberFits, ThreadsFit, Walking}
use Rattle.third_rule.specs.ThirdRule.{Standing, OnTable, number_at, label_at, move_at, is_first, NewLabel, OnlyMembers, AddedOn, AddedOver, Added, AtPlace, BeforePlace, ByFirst, ByEarlier, AllAddedOn}
use Rattle.work_layout.specs.WorkLayout.{table_length, moves_at, members_at, move_room}
use Rattle.sheet_types.specs.SheetLimits.{max_facts}

-- ---- the slice of a walk stands so
pub walking_standing : {rank : ℕ → ℕ} {w : List ℕ} {b : Basis} {s : Walk} → Walking rank w b s → Standing w b s.running
walking_standing h =
    record {
      collecting = h.collecting;
      fit = h.fit;
      small = h.small;
      few_facts = h.shelf_room.few;
      table = h.shelf_room.table;
    }

-- ---- the moves by their places
module _ {b : Basis} {v : List ℕ} {s : Running} (c : Standing v b s) where
  -- there are as many places as moves allowed
  pub place_in : (i : ℕ) → i < s.moves → (i < move_room) × (moves_at + i < length v)
  place_in i h = (
    omega (arith, c.collecting.room.2, c.collecting.caps.1),
    omega (arith, c.collecting.room.2, c.collecting.caps.1, c.collecting.long),
  )

  -- the number at a place is one of those in hand
  pub number_in_hand : (i : ℕ) → b.first ≤ i → i < s.moves → Memᴰ (number_at v i) (move_numbers v b.first s.moves)
  number_in_hand i h k =
      numbers_at_lem v (moves_at + b.first) (moves_at + s.moves) (omega (arith, c.collecting.room.1))
      (omega (arith, c.collecting.room.2, c.collecting.caps.1, c.collecting.long)) (moves_at + i) (omega arith) (omega arith)

  pub id_in_lem : (i : ℕ) → b.first ≤ i → i < s.moves → number_at v i % 65536 < s.members
  id_in_lem i h k = c.collecting.ids (number_at v i) (number_in_hand i h k)

  pub move_in_hand : (i : ℕ) → b.first ≤ i → i < s.moves → Memᴰ (move_at v i) (moves_of v b.first s)
  move_in_hand i h k = map_mem (move_in_lem v) (number_in_hand i h k)

  -- a move in hand stands at a place
  pub place_of : {k : Move} → Memᴰ k (moves_of v b.first s) → (i : ℕ) × (b.first ≤ i) × (i < s.moves) × (k ≡ move_at v i)
  place_of {k} m =
      let y = mem_map (move_in_lem v) (move_numbers v b.first s.moves) m in
      let p = numbers_place v (moves_at + b.first) (moves_at + s.moves) (omega (arith, c.collecting.room.1))
      (omega (arith, c.collecting.room.2, c.collecting.caps.1, c.collecting.long)) y.1 in
      let e : p.0 ≡ moves_at + (p.0 - moves_at) = omega (arith, p.1) in
      (p.0 - moves_at, omega (arith, p.1), omega (arith, p.1, p.2), y.2 ∙ ap (move_in_lem v) (p.3 ∙ ap (λ (n : ℕ). get_or v n 0) e))

  -- moves stand by their numbers
  pub numbers_ascend : (i j : ℕ) → b.first ≤ i → i < j → j < s.moves → number_at v i < number_at v j
  numbers_ascend i j h k l =
      numbers_rise v (moves_at + b.first) (moves_at + s.moves) (omega (arith, c.collecting.room.1))
      (omega (arith, c.collecting.room.2, c.collecting.caps.1, c.collecting.long)) c.collecting.ascending
      (moves_at + i) (moves_at + j) (omega arith) (omega arith) (omega arith)

  -- so a move with a label strictly below another's stands before it
  pub below_before : (i j : ℕ) → b.first ≤ j → i < s.moves → strictly_below (label_at v i) (label_at v j) ≡ true → i < j
  below_before i j h k z =
      let d = below_within (label_at v i) (label_at v j) z in
      let le : label_at v i ≤ label_at v j = within_le d.0 in
      go (ltb i j) refl (ltb j i) refl d le
    where
      go : (p : Bool) → ltb i j ≡ p → (q : Bool) → ltb j i ≡ q → Within (label_at v i) (label_at v j) × (label_at v i ≡ label_at v j → ⊥)
          → label_at v i ≤ label_at v j → i < j
      go true p q r d le = ltb-true i j p
      go false p true r d le =
          let n : number_at v j < number_at v i = numbers_ascend j i h (ltb-true j i r) k in
          let e : label_at v i ≡ label_at v j = omega arith in
          absurd (d.1 e)
      go false p false r d le =
          let e : i ≡ j = omega (arith, ltb-false i j p, ltb-false j i r) in
          absurd (d.1 (ap (label_at v) e))

  -- where the move at place j has another label than the one before it, no earlier move has its label
  pub first_new : (j : ℕ) → b.first ≤ j → j < s.moves → is_first v b.first j ≡ true → NewLabel v b s j (label_at v j)
  first_new j h k f = record { place = j; in_hand_lem = (h, k); label_is = refl; before = go (eqb j b.first) refl f }
    where
      go : (t : Bool) → eqb j b.first ≡ t → (t || not (eqb (label_at v (j - 1)) (label_at v j))) ≡ true
          → (i : ℕ) → b.first ≤ i → i < j → label_at v i ≡ label_at v j → ⊥
      go true t f i p q e = omega (arith, eqb-true j b.first t)
      go false t f i p q e =
          let d : label_at v (j - 1) ≡ label_at v j → ⊥ =
          eqb-false (label_at v (j - 1)) (label_at v j) (not-true (eqb (label_at v (j - 1)) (label_at v j)) f) in
          let last : number_at v (j - 1) < number_at v j = numbers_ascend (j - 1) j (omega arith) (omega arith) k in
          let up : number_at v i ≤ number_at v (j - 1) = rise i p q (ltb i (j - 1)) refl in
          let z : label_at v (j - 1) ≡ label_at v j = omega (arith, last, up, e) in
          d z
        where
          rise : (i : ℕ) → b.first ≤ i → i < j → (t : Bool) → ltb i (j - 1) ≡ t → number_at v i ≤ number_at v (j - 1)
          rise i p q true t =
              let n : number_at v i < number_at v (j - 1) = numbers_ascend i (j - 1) p (ltb-true i (j - 1) t) (omega arith) in omega arith
          rise i p q false t =
              let e : i ≡ j - 1 = omega (arith, ltb-false i (j - 1) t) in
              let n : number_at v i ≡ number_at v (j - 1) = ap (number_at v) e in
              omega arith

-- at any other place stands a move with the label of the one before it
pub not_first : (v : List ℕ) (first j : ℕ) → is_first v first j ≡ false → first ≤ j → (first < j) × (label_at v (j - 1) ≡ label_at v j)
not_first v first j f h =
    let e = or_false (eqb j first) (not (eqb (label_at v (j - 1)) (label_at v j))) f in
    (omega (arith, h, eqb-false j first e.0), same (eqb (label_at v (j - 1)) (label_at v j)) refl e.1)
  where
    same : (p : Bool) → eqb (label_at v (j - 1)) (label_at v j) ≡ p → not p ≡ false → label_at v (j - 1) ≡ label_at v j
    same true p q = eqb-true (label_at v (j - 1)) (label_at v j) p
    same false p q = true_false true refl q

-- ---- what stays
module _ {v w : List ℕ} (o : SameOutside members_at (members_at + table_length) v w) where
  -- the numbers at places of the moves
  pub number_kept : (i : ℕ) → i < move_room → number_at w i ≡ number_at v i
  number_kept i h = o.at (moves_at + i) (inl (omega arith))

  pub label_kept : (i : ℕ) → i < move_room → label_at w i ≡ label_at v i
  label_kept i h = ap (λ (n : ℕ). n / 65536) (number_kept i h)

  -- the table of closures
  low_kept : (facts : ℕ) → facts ≤ max_facts → (i : ℕ) → i < 2 ^ facts → get_or w i 0 ≡ get_or v i 0
  low_kept facts few i h = o.at i (inl (omega (arith, sets_few facts few)))

  pub table_kept : (facts : ℕ) → facts ≤ max_facts → TableOf facts v → TableOf facts w
  table_kept facts few t = record { rules = t.rules; closures = closures_agree t.closures (low_kept facts few); fit = t.fit }

  pub on_table_kept : {g : Growth} (b : Basis) → b.facts ≤ max_facts → OnTable g b v → OnTable g b w
  on_table_kept b few t =
      record { sound = t.sound; facts_are = t.facts_are; closures = closures_agree t.closures (low_kept b.facts few) }

-- ---- only members came in
module _ {b : Basis} {v : List ℕ} {s : Running} (c : Standing v b s) where
  pub only_none : OnlyMembers b v s v s
  only_none =
      record {
        standing = c;
        grown = grown_refl v b.first s;
        same_moves = (refl, refl);
        inside = outside_same members_at (members_at + table_length) v;
        gathered = λ g h o a. a;
      }

  module _ {w : List ℕ} {t : Running} (e : OnlyMembers b v s w t) where
    -- the moves are the same moves
    pub move_kept : (i : ℕ) → b.first ≤ i → i < s.moves → move_at w i ≡ move_at v i
    move_kept i h k =
        ap (move_in_lem w) (number_kept e.inside i (place_in c i k).0)
        ∙ move_same v w s.members e.grown.members_same (number_at v i) (id_in_lem c i h k)

    pub moves_back : {k : Move} → Memᴰ k (moves_of w b.first t) → Memᴰ k (moves_of v b.first s)
    moves_back {k} m =
        let y = mem_map (move_in_lem w) (move_numbers w b.first t.moves) m in
        let i : Memᴰ y.0 (move_numbers v b.first s.moves) = subst (Memᴰ y.0) e.same_moves.1 y.1 in
        subst (λ (x : Move). Memᴰ x (moves_of v b.first s))
        (sym (y.2 ∙ move_same v w s.members e.grown.members_same y.0 (c.collecting.ids y.0 i))) (map_mem (move_in_lem v) i)

    pub only_then : {u : List ℕ} {r : Running} → OnlyMembers b w t u r → OnlyMembers b v s u r
    only_then {u} {r} f =
        record {
          standing = f.standing;
          grown = grown_trans v w u b.first s t r e.grown f.grown;
          same_moves = (f.same_moves.0 ∙ e.same_moves.0, f.same_moves.1 ∙ e.same_moves.1);
          inside = outside_again e.inside f.inside;
          gathered = λ g h o a. f.gathered g h (on_table_kept e.inside b c.few_facts o) (e.gathered g h o a);
        }

    -- a cap is passed later
    pub over_then : {u : List ℕ} → AddedOver b w t u → AddedOver b v s u
    over_then f =
        record {
          passes = λ g h o a. f.passes g h (on_table_kept e.inside b c.few_facts o) (e.gathered g h o a);
          inside = outside_again e.inside f.inside;
        }

  -- additions, then others
  pub added_then : {P Q R : Move → ℕ → Type 0} {w : List ℕ} {t : Running} {u : List ℕ} {r : Running}
      → AddedOn P b v s w t → AddedOn Q b w t u r → ((k : Move) (l : ℕ) → R k l → P k l ⊎ Q k l) → AddedOn R b v s u r
  added_then {P} {Q} e f n =
      record {
        kept = only_then e.kept f.kept;
        added = λ g h o a k l p z.
            ⊎_elim (λ (x : P k l). grown_members f.kept.grown (e.added g h o a k l x z))
            (λ (x : Q k l). f.added g h (on_table_kept e.kept.inside b c.few_facts o) (e.kept.gathered g h o a) k l x z)
            (n k l p);
      }

-- ---- one addition
module _ (b : Basis) (v : List ℕ) (s : Running) (i label : ℕ) (c : Standing v b s) (low : b.first ≤ i) (high : i < s.moves)
    (n : NewLabel v b s (i + 1) label) where
  label_small : label < 2 ^ b.facts
  label_small =
      subst (λ (x : ℕ). x < 2 ^ b.facts) n.label_is
      (c.small (move_at v n.place) (move_in_hand c n.place n.in_hand_lem.0 n.in_hand_lem.1))

  target_in_lem : Memᴰ (move_at v i).target (members_of v s)
  target_in_lem = mem_tabulate (member_in (member_part v)) s.members (number_at v i % 65536) (id_in_lem c i low high)

  -- the target is held as u
  module _ (u : Configuration) (e : configuration u ≡ (move_at v i).target) where
    -- where its store has the label, adding it changes nothing
    pub has_label : bit_and label u.store ≡ label → AddedOn (AtPlace v i label) b v s v s
    has_label d =
        record {
          kept = only_none c;
          added = λ g h o a k l p z.
              let q : (move_at v i).target ≡ add g.sheet label (move_at v i).target =
              same g o (member_of_sheet o.sound (a.members_in_lem (move_at v i).target target_in_lem)).store.closed in
              subst (λ (x : spec.Configuration). Memᴰ x (members_of v s))
              (q ∙ ap₂ (λ (x : ℕ) (m : Move). add g.sheet x m.target) (sym p.label_is) (sym p.move_is)) target_in_lem;
        }
      where
        same : (g : Growth) → OnTable g b v → Closed g.sheet.rules (move_at v i).target.store
            → (move_at v i).target ≡ add g.sheet label (move_at v i).target
        same g o k =
            ap (λ (x : ℕ). record { store = x; threads = (move_at v i).target.threads })
            (sym (within_join g.sheet.rules k
            (subst (Within label) (ap (λ (x : spec.Configuration). x.store) e) (and_within label u.store d))))

    store_small : u.store < 2 ^ b.facts
    store_small =
        subst (λ (x : spec.Configuration). x.store < 2 ^ b.facts) (sym e) (c.fit (move_at v i).target target_in_lem).store

    -- the table has the closure of both together
    pub sum_in_table : bit_or label u.store < length v
    sum_in_table =
        omega (arith, or_lt b.facts label u.store label_small store_small, sets_few b.facts c.few_facts, c.collecting.long)

    sum_adds : (g : Growth) → OnTable g b v → configuration (joined v label u) ≡ add g.sheet label (move_at v i).target
    sum_adds g o =
        joined_adds g.sheet b.facts v label u o.closures
        (subst (λ (x : ℕ). conclusions g.sheet.rules < 2 ^ x) o.facts_are (conclusions_fit g.sheet o.sound.well_formed))
        (omega (arith, sets_few b.facts c.few_facts)) label_small store_small
        ∙ ap (add g.sheet label) e

    sum_fits : MemberFits b (configuration (joined v label u))
    sum_fits =
        let small : bit_or label u.store < 2 ^ b.facts = or_lt b.facts label u.store label_small store_small in
        record {
          store =
              omega (
                arith,
                closure_at c.table.rules b.facts v (bit_or label u.store) c.table.closures small c.table.fit
                    (omega (arith, sets_few b.facts c.few_facts)),
                closure_lt c.table.rules b.facts (bit_or label u.store) small c.table.fit,
              );
          threads =
              subst (λ (x : spec.Configuration). ThreadsFit b x.threads) (sym e) (c.fit (move_at v i).target target_in_lem).threads;
        }

    module _ (d : bit_and (label_at v i) label ≡ label_at v i) where
      below : strictly_below (label_at v i) label ≡ true
      below = within_below (and_within (label_at v i) label d) (n.before i low (omega arith))

      sum_in_set : (g : Growth) (h : InHand g) → OnTable g b v → Gathered g h v b.first s → InSet g (configuration (joined v label u))
      sum_in_set g h o a =
          subst (InSet g) (ap (λ (x : ℕ). add g.sheet x (move_at v i).target) n.label_is ∙ sym (sum_adds g o))
          (addition_in_set h (a.moves_of_lem (move_at v i) (move_in_hand c i low high))
          (a.moves_of_lem (move_at v n.place) (move_in_hand c n.place n.in_hand_lem.0 n.in_hand_lem.1))
          (subst (λ (x : ℕ). strictly_below (label_at v i) x ≡ true) (sym n.label_is) below))

      entered_kept : {w : List ℕ} {t : Running} → EnteredOn v b.first s b.caps (configuration (joined v label u)) w t
          → OnlyMembers b v s w t
      entered_kept {w} {t} f =
          record {
            standing = record {
              collecting = f.collecting;
              fit = λ x m.
                  ⊎_elim (λ (q : x ≡ configuration (joined v label u)). subst (MemberFits b) (sym q) sum_fits)
                  (λ (q : Memᴰ x (members_of v s)). c.fit x q) (f.members_only x m);
              small = λ k m. c.small k (entered_moves c.collecting f m);
              few_facts = c.few_facts;
              table = table_kept f.inside b.facts c.few_facts c.table;
            };
            grown = f.grown;
            same_moves = f.same_moves;
            inside = f.inside;
            gathered = λ g h o a. entered_gathered c.collecting a (sum_in_set g h o a) f;
          }

      -- else the target with the label added is entered
      pub sum_added : (w : List ℕ) (r : Option Running) → EnteredAs v b.first s b.caps (configuration (joined v label u)) w r
          → Added (AtPlace v i label) b v s w r
      sum_added w (Some t) f =
          record {
            kept = entered_kept f;
            added = λ g h o a k l p z.
                subst (λ (x : spec.Configuration). Memᴰ x (members_of w t))
                (sum_adds g o ∙ ap₂ (λ (x : ℕ) (m : Move). add g.sheet x m.target) (sym p.label_is) (sym p.move_is))
                f.entered;
          }
      sum_added w None f =
          record {
            passes = λ g h o a. no_room_for_passes o.sound c.collecting a (sum_in_set g h o a) f;
            inside = f.inside;
          }

-- ---- the moves before a place
module _ (b : Basis) (v : List ℕ) (s : Running) (label : ℕ) (c : Standing v b s) where
  pub before_next : (i : ℕ) (w : List ℕ) (t : Running) (u : List ℕ) (r : Running) → b.first ≤ i → i < s.moves
      → AddedOn (BeforePlace v b.first i label) b v s w t → AddedOn (AtPlace w i label) b w t u r
      → AddedOn (BeforePlace v b.first (i + 1) label) b v s u r
  before_next i w t u r low high e f = added_then c e f split
    where
      split : (k : Move) (l : ℕ) → BeforePlace v b.first (i + 1) label k l → BeforePlace v b.first i label k l ⊎ AtPlace w i label k l
      split k l p = go (eqb p.place i) refl
        where
          go : (q : Bool) → eqb p.place i ≡ q → BeforePlace v b.first i label k l ⊎ AtPlace w i label k l
          go true q =
              inr (record {
                move_is = p.at.move_is ∙ ap (move_at v) (eqb-true p.place i q) ∙ sym (move_kept c e.kept i low high);
                label_is = p.at.label_is;
              })
          go false q =
              inl (record {
                place = p.place;
                within = (p.within.0, omega (arith, p.within.1, eqb-false p.place i q));
                at = p.at;
              })

-- ---- all moves
module _ (b : Basis) (v : List ℕ) (s : Running) (c : Standing v b s) where
  -- the moves with a label below the one at place j all stand before it
  pub by_first : (j : ℕ) → b.first ≤ j → (w : List ℕ) (r : Option Running) → Added (BeforePlace v b.first j (label_at v j)) b v s w r
      → Added (ByFirst v b.first s j) b v s w r
  by_first j h w (Some t) e =
      record {
        kept = e.kept;
        added = λ g x o a k l p z.
            let y = place_of c p.in_hand_lem in
            let below : strictly_below (label_at v y.0) (label_at v j) ≡ true =
            subst (λ (n : ℕ). strictly_below n (label_at v j) ≡ true) (ap (λ (m : Move). m.label) y.3)
            (subst (λ (n : ℕ). strictly_below k.label n ≡ true) p.label_is z) in
            e.added g x o a k l (record {
              place = y.0;
              within = (y.1, below_before c y.0 j h y.2 below);
              at = record { move_is = y.3; label_is = p.label_is };
            }) z;
      }
  by_first j h w None e = e

  pub earlier_next : (j : ℕ) (w : List ℕ) (t : Running) (u : List ℕ) (r : Running) → b.first ≤ j → j < s.moves
      → AddedOn (ByEarlier v b.first s j) b v s w t → AddedOn (ByFirst w b.first t j) b w t u r
      → AddedOn (ByEarlier v b.first s (j + 1)) b v s u r
  earlier_next j w t u r low high e f = added_then c e f split
    where
      split : (k : Move) (l : ℕ) → ByEarlier v b.first s (j + 1) k l → ByEarlier v b.first s j k l ⊎ ByFirst w b.first t j k l
      split k l p = go (eqb p.place j) refl (is_first v b.first j) refl
        where
          go : (q : Bool) → eqb p.place j ≡ q → (x : Bool) → is_first v b.first j ≡ x
              → ByEarlier v b.first s j k l ⊎ ByFirst w b.first t j k l
          go true q true x =
              let small : j < move_room = (place_in c j high).0 in
              let same : is_first w b.first j ≡ is_first v b.first j =
              ap₂ (λ (m n : ℕ). eqb j b.first || not (eqb m n)) (label_kept e.kept.inside (j - 1) (omega arith))
              (label_kept e.kept.inside j small) in
              inr (record {
                first_with_it = same ∙ x;
                in_hand_lem = e.kept.grown.moves_keep k p.in_hand_lem;
                label_is =
                    p.label_is ∙ ap (label_at v) (eqb-true p.place j q) ∙ sym (label_kept e.kept.inside j small);
              })
          go true q false x =
              let y = not_first v b.first j x low in
              inl (record {
                in_hand_lem = p.in_hand_lem;
                place = j - 1;
                within = (omega (arith, y.0), omega (arith, y.0));
                label_is = p.label_is ∙ ap (label_at v) (eqb-true p.place j q) ∙ sym y.1;
              })
          go false q z x =
              inl (record {
                in_hand_lem = p.in_hand_lem;
                place = p.place;
                within = (p.within.0, omega (arith, p.within.1, eqb-false p.place j q));
                label_is = p.label_is;
              })

  pub all_added : (w : List ℕ) (t : Running) → AddedOn (ByEarlier v b.first s s.moves) b v s w t → AllAddedOn b v s w t
  all_added w t e =
      record {
        kept = e.kept;
        added = λ g h o a k m i j z.
            let y = place_of c (moves_back c e.kept j) in
            e.added g h o a k m.label (record {
              in_hand_lem = moves_back c e.kept i;
              place = y.0;
              within = (y.1, y.2);
              label_is = ap (λ (x : Move). x.label) y.3;
            }) z;
      }
