-- What is noted and entered while the moves of one member are collected stays within the set, and where there is no room the
-- set itself passes a limit.
use Rattle.std.specs.Prelude.{◌≡◌, true, ℕ, ◌+◌, ◌-◌, ◌/◌, ◌%◌, ◌<◌, length, get_or}
use Rattle.std.proofs.Common.{sym, ap, ◌∙◌, subst, ⊎_elim, arith, length-append}
use mathlib.Core.List.{List, [], ◌∷◌, ◌++◌, map, Memᴰ}
use Rattle.std.proofs.lemmas.List.{length-map}
use Rattle.collected_moves.specs.Tabulate.{tabulate_at, tabulate_length}
use Rattle.collected_moves.specs.TabulateLaws.{mem_tabulate, tabulate_mem}
use Rattle.comparison_laws.specs.Members.{mem_map, map_mem}
use Rattle.comparison_laws.specs.Lists.{Distinct, one_more}
use Rattle.comparison_laws.specs.Counting.{distinct_append, distinct_map, distinct_map_on, ascends_distinct}
use Rattle.comparison_laws.specs.Stores.{strictly_below}
use Rattle.comparison_laws.specs.StoreLaws.{below_within}
use Rattle.comparison_laws.specs.Sheet.{Configuration}
use Rattle.comparison_laws.specs.WellFormed.{OfSheet}
use Rattle.comparison_laws.specs.Orders.{Move}
use Rattle.comparison_laws.specs.Moves.{moves, add}
use Rattle.comparison_laws.specs.Refinement.{target, added}
use Rattle.comparison_laws.specs.StableRounds.{member_of}
use Rattle.comparison_laws.specs.SheetTransitions.{transitions}
use Rattle.comparison_laws.specs.SheetMoves.{lawful}
use Rattle.comparison_laws.specs.Promise.{MemberMove, PassesLimit, many_members, many_threads_lem, many_moves}
use Rattle.comparison_laws.specs.AscendingLaws.{number_order}
use Rattle.collected_moves.specs.NumberLaws.{numbers_length}
use Rattle.collected_moves.specs.MemberTable.{member_in}
use Rattle.collected_moves.specs.MemberLaws.{member_id, members_distinct}
use Rattle.collected_moves.specs.declared.Caps.{Caps}
use Rattle.collected_moves.specs.declared.Running.{Running}
use Rattle.collected_moves.specs.CollectedMoves.{member_part, members_of, move_in_lem, move_numbers, moves_of, Collecting, Grown, NotedOn, NoRoom, EnteredOn, NoRoomFor}
use Rattle.set_growth.specs.SetGrowth.{Growth, Sound, InSet, InHand, Gathered}
use Rattle.collected_moves.specs.WorkLayout.{moves_at}

-- ---- members of the set
-- every member is a configuration of the sheet
pub member_of_sheet : {g : Growth} {l : Caps} → Sound g l → {p : Configuration} → InSet g p → OfSheet g.sheet p
member_of_sheet {g} a {p} i = member_of (transitions g.sheet) (lawful g.sheet a.well_formed) g.seeds a.seeds_of p i

module _ {g : Growth} (h : InHand g) where
  -- the target of a move of the member in hand is in the set
  pub target_in_set : {m : Move} → Memᴰ m (moves g.sheet h.member) → InSet g m.target
  target_in_set i = target h.in_set i

  -- and so is the target of one with the label of another added, where the first label is strictly below the second
  pub addition_in_set : {k m : Move} → Memᴰ k (moves g.sheet h.member) → Memᴰ m (moves g.sheet h.member)
      → strictly_below k.label m.label ≡ true → InSet g (add g.sheet m.label k.target)
  addition_in_set {k} {m} i j b = added h.in_set i j (below_within k.label m.label b)

-- ---- what was kept stays
module _ {v : List ℕ} {first : ℕ} {s : Running} {w : List ℕ} {t : Running} (e : Grown v first s w t) where
  -- a member keeps its id
  pub grown_member : (i : ℕ) → i < s.members → member_in (member_part w) i ≡ member_in (member_part v) i
  grown_member i h =
      let d : Configuration = record { store = 0; threads = [] } in
      sym (tabulate_at (member_in (member_part w)) s.members i d h)
      ∙ ap (λ (z : List Configuration). get_or z i d) e.members_same
      ∙ tabulate_at (member_in (member_part v)) s.members i d h

  -- a member stays one
  pub grown_members : {x : Configuration} → Memᴰ x (members_of v s) → Memᴰ x (members_of w t)
  grown_members {x} m =
      let i = tabulate_mem (member_in (member_part v)) s.members m in
      subst (λ (z : Configuration). Memᴰ z (members_of w t)) (grown_member i.0 i.1 ∙ sym i.2)
      (mem_tabulate (member_in (member_part w)) t.members i.0 (omega (arith, i.1, e.members_grow)))

-- entering a member brings in no move
pub entered_moves : {v : List ℕ} {first : ℕ} {s : Running} {l : Caps} {p : Configuration} {w : List ℕ} {t : Running} {k : Move}
    → Collecting v first s l → EnteredOn v first s l p w t → Memᴰ k (moves_of w first t) → Memᴰ k (moves_of v first s)
entered_moves {v} {first} {s} {l} {p} {w} {t} {k} c n j =
    let y = mem_map (move_in_lem w) (move_numbers w first t.moves) j in
    let i : Memᴰ y.0 (move_numbers v first s.moves) = subst (Memᴰ y.0) n.same_moves.1 y.1 in
    let e : k ≡ move_in_lem v y.0 =
    y.2
    ∙ ap (λ (q : Configuration). record { label = y.0 / 65536; target = q }) (grown_member n.grown (y.0 % 65536) (c.ids y.0 i)) in
    subst (λ (z : Move). Memᴰ z (moves_of v first s)) (sym e) (map_mem (move_in_lem v) i)

-- ---- what is gathered stays within the set
module _ {g : Growth} {h : InHand g} {v : List ℕ} {first : ℕ} {s : Running} {w : List ℕ} {t : Running} where
  -- where members and moves are the same lists
  pub gathered_same : members_of w t ≡ members_of v s → moves_of w first t ≡ moves_of v first s → Gathered g h v first s
      → Gathered g h w first t
  gathered_same p q a = record {
    before = a.before;
    members_in_lem = λ x m. a.members_in_lem x (subst (Memᴰ x) p m);
    moves_of_lem = λ k m. a.moves_of_lem k (subst (Memᴰ k) q m);
  }

  -- after a move of the member in hand was noted
  pub noted_gathered : {l : Caps} {m : Move} → Gathered g h v first s → Memᴰ m (moves g.sheet h.member)
      → NotedOn v first s l m w t → Gathered g h w first t
  noted_gathered {l} {m} a i n = record {
    before = a.before;
    members_in_lem = λ x j.
        ⊎_elim (λ (e : x ≡ m.target). subst (InSet g) (sym e) (target_in_set h i))
        (λ (o : Memᴰ x (members_of v s)). a.members_in_lem x o) (n.members_only x j);
    moves_of_lem = λ k j.
        ⊎_elim (λ (e : k ≡ m). subst (λ (z : Move). Memᴰ z (moves g.sheet h.member)) (sym e) i)
        (λ (o : Memᴰ k (moves_of v first s)). a.moves_of_lem k o) (n.moves_only k j);
  }

  -- after a member of the set was entered
  pub entered_gathered : {l : Caps} {p : Configuration} → Collecting v first s l → Gathered g h v first s → InSet g p
      → EnteredOn v first s l p w t → Gathered g h w first t
  entered_gathered {l} {p} c a i n = record {
    before = a.before;
    members_in_lem = λ x j.
        ⊎_elim (λ (e : x ≡ p). subst (InSet g) (sym e) i)
        (λ (o : Memᴰ x (members_of v s)). a.members_in_lem x o) (n.members_only x j);
    moves_of_lem = λ k j. a.moves_of_lem k (entered_moves c n j);
  }

-- ---- no repeats
module _ {v : List ℕ} {first : ℕ} {s : Running} {l : Caps} (c : Collecting v first s l) where
  -- two numbers that stand for one move are equal
  move_number_lem : (a b : ℕ) → Memᴰ a (move_numbers v first s.moves) → Memᴰ b (move_numbers v first s.moves)
      → move_in_lem v a ≡ move_in_lem v b → a ≡ b
  move_number_lem a b i j e =
      let p : a / 65536 ≡ b / 65536 = ap (λ (m : Move). m.label) e in
      let q : a % 65536 ≡ b % 65536 =
      member_id (member_part v) s.members c.kept (a % 65536) (b % 65536) (c.ids a i) (c.ids b j) (ap (λ (m : Move). m.target) e) in
      omega (arith, p, q)

  -- no move was collected twice
  pub moves_distinct : Distinct (moves_of v first s)
  moves_distinct =
      distinct_map_on (move_in_lem v) (move_numbers v first s.moves)
      (ascends_distinct number_order (move_numbers v first s.moves) c.ascending) move_number_lem

  pub moves_length : length (moves_of v first s) ≡ s.moves - first
  moves_length =
      let n : length (move_numbers v first s.moves) ≡ moves_at + s.moves - (moves_at + first) =
      numbers_length v (moves_at + first) (moves_at + s.moves) (omega (arith, c.room.1))
      (omega (arith, c.long, c.room.2, c.caps.1)) in
      let e : length (moves_of v first s) ≡ length (move_numbers v first s.moves) =
      length-map (move_numbers v first s.moves) (move_in_lem v) in
      omega (arith, n, e)

-- ---- a limit is passed
module _ {g : Growth} {l : Caps} (a : Sound g l) where
  -- by a member of more threads than allowed
  pub threads_pass : {p : Configuration} → InSet g p → l.threads < length p.threads → PassesLimit g.sheet g.limits g.seeds
  threads_pass {p} i h = many_threads_lem p i (omega (arith, h, a.limits.1))

  -- by a move of the member in hand whose target has more threads than allowed
  pub move_threads_pass : (h : InHand g) {m : Move} → Memᴰ m (moves g.sheet h.member) → l.threads < length m.target.threads
      → PassesLimit g.sheet g.limits g.seeds
  move_threads_pass h i k = threads_pass (target_in_set h i) k

  module _ {h : InHand g} {v : List ℕ} {first : ℕ} {s : Running} (c : Collecting v first s l) (b : Gathered g h v first s) where
    -- by the members kept with one more
    members_pass : {p : Configuration} → InSet g p → s.members ≡ l.members → (Memᴰ p (members_of v s) → ⊥)
        → PassesLimit g.sheet g.limits g.seeds
    members_pass {p} i e n =
        many_members (record {
          elements = p ∷ members_of v s;
          distinct = one_more n (members_distinct (member_part v) s.members c.kept);
          all = λ x m.
              ⊎_elim (λ (q : x ≡ p). subst (InSet g) (sym q) i) (λ (o : Memᴰ x (members_of v s)). b.members_in_lem x o)
              (mathlib.Core.List.Memᴰ.cases_cons m);
          more = omega (arith, e, a.limits.0, tabulate_length (member_in (member_part v)) s.members);
        })

    -- by the moves before, those collected and one more
    moves_pass : {m : Move} → Memᴰ m (moves g.sheet h.member) → s.moves ≡ l.moves → (Memᴰ m (moves_of v first s) → ⊥)
        → PassesLimit g.sheet g.limits g.seeds
    moves_pass {m} i e n =
        many_moves (record {
          elements = h.earlier ++ map of_hand (m ∷ moves_of v first s);
          distinct =
              distinct_append h.earlier (map of_hand (m ∷ moves_of v first s)) h.distinct
              (distinct_map of_hand (m ∷ moves_of v first s) (λ x y q. ap (λ (z : MemberMove). z.move) q) (one_more n (moves_distinct c)))
              (λ x j k. h.others x j (ap (λ (z : MemberMove). z.member) (mem_map of_hand (m ∷ moves_of v first s) k).2));
          all = λ x j.
              ⊎_elim (λ (k : Memᴰ x h.earlier). h.moves_of_lem x k)
              (λ (k : Memᴰ x (map of_hand (m ∷ moves_of v first s))).
              let y = mem_map of_hand (m ∷ moves_of v first s) k in
              subst (λ (z : MemberMove). InSet g z.member × Memᴰ z.move (moves g.sheet z.member)) (sym y.2)
              (h.in_set, of_hand_lem y.0 y.1))
              (mathlib.Core.List.Memᴰ.append_cases h.earlier j);
          more =
              omega (
                arith,
                e,
                a.limits.2,
                b.before,
                c.room.1,
                moves_length c,
                length-append h.earlier (map of_hand (m ∷ moves_of v first s)),
                length-map (m ∷ moves_of v first s) of_hand,
              );
        })
      where
        of_hand : Move → MemberMove
        of_hand k = record { member = h.member; move = k }

        of_hand_lem : (k : Move) → Memᴰ k (m ∷ moves_of v first s) → Memᴰ k (moves g.sheet h.member)
        of_hand_lem k j =
            ⊎_elim (λ (q : k ≡ m). subst (λ (z : Move). Memᴰ z (moves g.sheet h.member)) (sym q) i)
            (λ (o : Memᴰ k (moves_of v first s)). b.moves_of_lem k o) (mathlib.Core.List.Memᴰ.cases_cons j)

    -- where there is no room for a move of the member in hand
    pub no_room_passes : {m : Move} {w : List ℕ} → Memᴰ m (moves g.sheet h.member) → NoRoom v first s l m w
        → PassesLimit g.sheet g.limits g.seeds
    no_room_passes {m} i n =
        ⊎_elim
        (λ (x : (s.members ≡ l.members) × (Memᴰ m.target (members_of v s) → ⊥)). members_pass (target_in_set h i) x.0 x.1)
        (λ (x : (s.moves ≡ l.moves) × (Memᴰ m (moves_of v first s) → ⊥)). moves_pass i x.0 x.1)
        n.full

    -- where there is no room for a member of the set
    pub no_room_for_passes : {p : Configuration} {w : List ℕ} → InSet g p → NoRoomFor v s l p w
        → PassesLimit g.sheet g.limits g.seeds
    no_room_for_passes i n = members_pass i n.full n.missing
