-- A node marked: what the part that keeps the marks says of it, and what that means for a walk from which the node was taken out.
use Rattle.std.specs.Prelude.{◌≡◌, refl, ◌⊎◌, true, false, ℕ, ◌+◌, ◌*◌, ◌≤◌, ◌<◌, length, get_or, ltb}
use Rattle.std.proofs.Common.{sym, ap, ◌∙◌, subst, inl, inr, ⊎_elim, arith, ltb-true, ltb-false}
use mathlib.Core.List.Memᴰ
use mathlib.Core.List.{List, [], ◌∷◌, ◌++◌, map, Memᴰ}
use Rattle.std.proofs.Math.Nat.{pow-le-pow_right}
use Rattle.packing.specs.TestLaws.{true_false}
use Rattle.packing.specs.Frames.{SameOutside, outside_same, outside_then, outside_again}
use Rattle.packing.specs.Tabulate.{tabulate_at, tabulate_none}
use Rattle.packing.specs.TabulateLaws.{tabulate_mem}
use Rattle.packing.specs.Members.{mem_map, map_mem}
use Rattle.packing.specs.Sheet.{Node, Configuration}
use Rattle.packing.specs.Orders.{Move}
use Rattle.walk_state.specs.NodeMoves.{NodeBeside, placed_moves}
use Rattle.member_table.specs.MemberTable.{member_in, members_in, part_at, Kept}
use Rattle.member_table.specs.EntryFound.{EnteredIn}
use Rattle.member_table.specs.MemberLaws.{kept_none, member_id, entered_itself, entered_only}
use Rattle.walk_state.specs.LabelShelfLaws.{room_agree, SameShelf, shelved_agree}
use Rattle.walk_state.specs.CollectedMoves.{Grown, members_of, moves_of}
use Rattle.walk_state.specs.CollectedLaws.{grown_trans}
use Rattle.walk_state.specs.CollectedFrames.{members_outside, moves_outside, collecting_outside, grown_outside}
use Rattle.walk_state.specs.SetGrowth.{Growth, InHand}
use Rattle.walk_state.specs.SetGrowthLaws.{gathered_same}
use Rattle.walk_state.specs.ThreadsBeside.{placed, placed_one}
use Rattle.walk_state.specs.NodesToVisit.{pending_one, pending_in}
use Rattle.walk_state.specs.NodesToVisitLaws.{pending_pop, pending_same, pending_same_packed, weight, weight_none, weight_next, weight_append}
use Rattle.walk_state.specs.declared.Basis.{Basis}
use Rattle.walk_state.specs.declared.Walk.{Walk}
use Rattle.walk_state.specs.WalkState.{VisitFits, Entry, marks_of, Walking, InReach, InReachBelow, Covering, OnSheet, Carried, TurnOn, TurnOver}
use Rattle.walk_state.specs.NotedInWalk.{grown_sheet}
use Rattle.node_marks.specs.declared.Marked.{Marked}
use Rattle.node_marks.specs.NodeMarks.{SeenAs, MarkedAs}
use Rattle.work_layout.specs.WorkLayout.{work_end, table_length, moves_at, marks_at, pending_at, member_room, set_room}

-- ---- marks
-- a mark is the numbers of one node with threads beside it
module _ (w : List ℕ) (n : ℕ) {p : Configuration} where
  mark_of : Memᴰ p (members_in (part_at w marks_at) n) → Memᴰ (placed p) (marks_of w n)
  mark_of i = map_mem placed i

  of_mark : Memᴰ (placed p) (marks_of w n) → Memᴰ p (members_in (part_at w marks_at) n)
  of_mark i =
      let x = mem_map placed (members_in (part_at w marks_at) n) i in
      subst (λ (z : Configuration). Memᴰ z (members_in (part_at w marks_at) n)) (sym (placed_one x.2)) x.1

-- entered among the marks there were
pub entered_marks : {v w : List ℕ} {n : ℕ} {p : Configuration} {id m at : ℕ} → Kept (part_at v marks_at) n
    → EnteredIn (part_at v marks_at) n member_room p (part_at w marks_at) id m at → SameOutside marks_at (marks_at + table_length) v w
    → MarkedAs v n (placed p) w (record { fresh = ltb n m; marks = m })
entered_marks {v} {w} {n} {p} {id} {m} {at} k e o =
    record {
      seen = record {
        kept = e.kept;
        only = λ x i. only x (mem_map placed (members_in (part_at w marks_at) m) i);
        known = λ t. mark_of v n (marked t e.fresh);
        outside = o;
      };
      itself = mark_of w m (entered_itself k e);
      new = λ t i. unmarked t (of_mark v n i) e.fresh;
    }
  where
    only : (x : NodeBeside) → (y : Configuration) × Memᴰ y (members_in (part_at w marks_at) m) × (x ≡ placed y)
        → (x ≡ placed p) ⊎ Memᴰ x (marks_of v n)
    only x y =
        ⊎_elim (λ (q : y.0 ≡ p). inl (y.2 ∙ ap placed q))
        (λ (i : Memᴰ y.0 (members_in (part_at v marks_at) n)).
        inr (subst (λ (z : NodeBeside). Memᴰ z (marks_of v n)) (sym y.2) (mark_of v n i)))
        (entered_only k e y.1)

    unmarked : ltb n m ≡ true → Memᴰ p (members_in (part_at v marks_at) n)
        → ((m ≡ n) × (part_at w marks_at ≡ part_at v marks_at)) ⊎ ((m ≡ n + 1) × (id ≡ n)) → ⊥
    unmarked t i (inl q) = let l = ltb-true n m t in omega (arith, q.0)
    unmarked t i (inr q) =
        let j = tabulate_mem (member_in (part_at w marks_at)) n (subst (Memᴰ p) (sym e.members) i) in
        let same : id ≡ j.0 =
        member_id (part_at w marks_at) m e.kept id j.0 e.named.0 (omega (arith, j.1, q.0)) (e.named.1 ∙ j.2) in
        omega (arith, j.1, q.1)

    marked : ltb n m ≡ false → ((m ≡ n) × (part_at w marks_at ≡ part_at v marks_at)) ⊎ ((m ≡ n + 1) × (id ≡ n))
        → Memᴰ p (members_in (part_at v marks_at) n)
    marked t (inl q) =
        subst (λ (i : ℕ). Memᴰ p (members_in (part_at v marks_at) i)) q.0
        (subst (λ (l : List ℕ). Memᴰ p (members_in l m)) q.1 (entered_itself k e))
    marked t (inr q) = let l = ltb-false n m t in absurd (omega (arith, q.0))

-- none are kept after that
pub forgotten_kept : {v w : List ℕ} {n : ℕ} → Kept v n → w ≡ v → Kept w 0
forgotten_kept {w = w} k q = kept_none w (omega (arith, ap (λ (l : List ℕ). length l) q, k.long))

-- there is room where there are none
pub never_full : ◌≡◌ {A = ℕ} 0 member_room → ⊥
never_full q = omega arith

-- where there is no room all marks are forgotten, and then this one is made
pub forgotten_marks : {u v w : List ℕ} {n : ℕ} {p : Configuration} {id m at : ℕ} → (Memᴰ p (members_in (part_at u marks_at) n) → ⊥)
    → Kept (part_at v marks_at) 0 → EnteredIn (part_at v marks_at) 0 member_room p (part_at w marks_at) id m at
    → SameOutside marks_at (marks_at + table_length) u v → SameOutside marks_at (marks_at + table_length) v w
    → MarkedAs u n (placed p) w (record { fresh = true; marks = m })
forgotten_marks {u} {v} {w} {n} {p} {id} {m} none k e o q =
    let again = entered_marks k e q in
    record {
      seen = record {
        kept = e.kept;
        only = λ x i.
            ⊎_elim (λ (z : x ≡ placed p). inl z)
            (λ (z : Memᴰ x (marks_of v 0)).
            absurd (Memᴰ.not-nil (subst (Memᴰ x) (ap (map placed) (tabulate_none (member_in (part_at v marks_at)))) z)))
            (again.seen.only x i);
        known = λ t. true_false true refl t;
        outside = outside_again o q;
      };
      itself = mark_of w m (entered_itself k e);
      new = λ t i. none (of_mark u n i);
    }

-- a node that is taken as new and not marked
pub unmarked_seen : {v : List ℕ} {n : ℕ} {p : NodeBeside} → Kept (part_at v marks_at) n → SeenAs v n p v (record { fresh = true; marks = n })
unmarked_seen {v} k =
    record { kept = k; only = λ x i. inr i; known = λ t. true_false true refl t; outside = outside_same marks_at (marks_at + table_length) v }

-- ---- a node looked for among the marks that was taken out
-- the walk with so many marks and nodes to visit
abbrev pub unstacked : Walk → ℕ → ℕ → Walk
unstacked s marks n = record { running = s.running; shelf = s.shelf; marks = marks; top = n }

module _ {rank : ℕ → ℕ} {b : Basis} {v : List ℕ} {s : Walk} (k : Walking rank v b s) (n : ℕ) (last : n + 1 ≡ s.top) {w : List ℕ} {r : Marked}
    (a : SeenAs v s.marks (pending_one v n) w r) where
  abbrev e : NodeBeside
  e = pending_one v n

  moves_below : moves_at + s.running.moves ≤ marks_at
  moves_below = omega (arith, k.collecting.room.2, k.collecting.caps.1)

  same_members : members_of w s.running ≡ members_of v s.running
  same_members = members_outside a.outside (inl (omega arith)) s.running.members

  same_moves : moves_of w b.first s.running ≡ moves_of v b.first s.running
  same_moves = moves_outside a.outside (inl (omega arith)) b.first s.running (inl moves_below)

  marked_grown : Grown v b.first s.running w s.running
  marked_grown =
      grown_outside a.outside (inl (omega arith)) b.first s.running (inl moves_below)
      (omega (arith, moves_below, k.collecting.room.1)) (omega arith)

  same_table : (i : ℕ) → i < set_room → get_or w i 0 ≡ get_or v i 0
  same_table i l = a.outside.at i (inl (omega arith))

  same_shelf : SameShelf v w
  same_shelf = record { long = a.outside.long; table = same_table; shelf = λ i l u. a.outside.at i (inr (omega arith)) }

  few : n ≤ 64
  few = omega (arith, k.top)

  same_places : (i : ℕ) → pending_at ≤ i → i < pending_at + 3 * n → get_or w i 0 ≡ get_or v i 0
  same_places i l u = a.outside.at i (inr (omega arith))

  same_pending : pending_in w n ≡ pending_in v n
  same_pending = pending_same v w n same_places

  -- the nodes to visit were the others and this one
  all_pending : pending_in v s.top ≡ pending_in v n ++ (e ∷ [])
  all_pending = ap (pending_in v) (sym last) ∙ pending_pop v n

  entry_same : (i : ℕ) → i < n → Entry rank v b i → Entry rank w b i
  entry_same i l h =
      let q : pending_one w i ≡ pending_one v i =
      sym (tabulate_at (pending_one w) n i e l) ∙ ap (λ (es : List NodeBeside). get_or es i e) same_pending
      ∙ tabulate_at (pending_one v) n i e l in
      record {
        packed = pending_same_packed v w n same_places i l h.packed;
        fits = subst (VisitFits b) (sym q) h.fits;
        height = subst (λ (x : NodeBeside). rank x.node + i < 64) (sym q) h.height;
      }

  -- all stays in order
  pub marked_walking : Walking rank w b (unstacked s r.marks n)
  marked_walking =
      record {
        collecting = collecting_outside a.outside (inl (omega arith)) b.first s.running (inl moves_below) k.collecting;
        fit = λ x m. k.fit x (subst (Memᴰ x) same_members m);
        small = λ x m. k.small x (subst (Memᴰ x) same_moves m);
        marks = a.kept;
        shelf_room = room_agree k.shelf_room a.outside.long same_table;
        shelved = shelved_agree v w b.facts b.store k.shelf_room.few same_shelf s.shelf k.shelved;
        top = few;
        entries = λ i l. entry_same i l (k.entries i (omega arith));
      }

  -- the node fits, and is low enough
  pub last_entry : Entry rank v b n
  last_entry = k.entries n (omega arith)

  -- a node to visit was this one or is one still
  module _ {x : NodeBeside} where
    last_or : Memᴰ x (pending_in v s.top) → (x ≡ e) ⊎ Memᴰ x (pending_in w n)
    last_or i =
        ⊎_elim (λ (j : Memᴰ x (pending_in v n)). inr (subst (Memᴰ x) (sym same_pending) j))
        (λ (j : Memᴰ x (e ∷ [])). inl (Memᴰ.eq_of_singleton j))
        (Memᴰ.append_cases (pending_in v n) (subst (Memᴰ x) all_pending i))

    still_there : Memᴰ x (pending_in w n) → Memᴰ x (pending_in v s.top)
    still_there i = subst (Memᴰ x) (sym all_pending) (Memᴰ.append_left (e ∷ []) (subst (Memᴰ x) same_pending i))

  was_there : Memᴰ e (pending_in v s.top)
  was_there = subst (Memᴰ e) (sym all_pending) (Memᴰ.append_right (pending_in v n) (Memᴰ.head refl))

  same_weight : weight rank ((e ∷ []) ++ pending_in w n) ≡ weight rank (pending_in v s.top)
  same_weight =
      let x : weight rank (pending_in w n) ≡ weight rank (pending_in v n) = ap (weight rank) same_pending in
      let y : weight rank (pending_in v s.top) ≡ weight rank (pending_in v n ++ (e ∷ [])) = ap (weight rank) all_pending in
      omega (arith, weight_append rank (e ∷ []) (pending_in w n), weight_append rank (pending_in v n) (e ∷ []))

  first_low : moves_at + b.first ≤ marks_at
  first_low = omega (arith, moves_below, k.collecting.room.1)

  marked_sheet : {g : Growth} {nodes : List Node} → OnSheet g nodes b v → OnSheet g nodes b w
  marked_sheet h = grown_sheet k marked_grown.outside h

  module _ (g : Growth) (h : InHand g) where
    -- what e gives
    abbrev Gives : NodeBeside → Move → Type 0
    Gives x m = Memᴰ m (placed_moves g.sheet b.store x)

    moved : {x y : NodeBeside} {m : Move} → x ≡ y → Gives x m → Gives y m
    moved {x} {y} {m} q j = subst (λ (z : NodeBeside). Gives z m) q j

    same_rank : {x y : NodeBeside} → x ≡ y → rank x.node ≡ rank y.node
    same_rank q = ap (λ (z : NodeBeside). rank z.node) q

    -- what was in reach is in reach while the node stands apart
    marked_reach : (m : Move) → InReach g b v s [] m → InReach g b w (unstacked s r.marks n) (e ∷ []) m
    marked_reach m (inl i) = inl (subst (Memᴰ m) (sym same_moves) i)
    marked_reach m (inr x) =
        ⊎_elim (λ (q : x.0 ≡ e). inr (e, Memᴰ.head refl, moved q x.2))
        (λ (i : Memᴰ x.0 (pending_in w n)). inr (x.0, Memᴰ.tail i, x.2))
        (last_or x.1)

    marked_below_lem : (i : ℕ) (m : Move) → InReachBelow rank g b v s [] i m → InReachBelow rank g b w (unstacked s r.marks n) (e ∷ []) i m
    marked_below_lem i m (inl j) = inl (subst (Memᴰ m) (sym same_moves) j)
    marked_below_lem i m (inr (inl x)) = absurd (Memᴰ.not-nil x.1)
    marked_below_lem i m (inr (inr x)) =
        ⊎_elim (λ (q : x.0 ≡ e). inr (inl (e, Memᴰ.head refl, omega (arith, same_rank q, x.2), moved q x.3)))
        (λ (j : Memᴰ x.0 (pending_in w n)). inr (inr (x.0, j, x.2, x.3)))
        (last_or x.1)

    marked_covering : Covering rank g h b v s [] → Covering rank g h b w (unstacked s r.marks n) (e ∷ [])
    marked_covering c =
        record {
          gathered = gathered_same same_members same_moves c.gathered;
          visited = λ x i m j.
              ⊎_elim (λ (q : x ≡ e). inr (inl (e, Memᴰ.head refl, omega (arith, same_rank q), moved q j)))
              (λ (o : Memᴰ x (marks_of v s.marks)). marked_below_lem (rank x.node) m (c.visited x o m j))
              (a.only x i);
          given = λ x i m j.
              ⊎_elim (λ (q : x ≡ e). c.given e was_there m (moved q j))
              (λ (o : Memᴰ x (pending_in w n)). c.given x (still_there o) m j)
              (Memᴰ.cases_cons i);
        }

    -- A node that was marked before may be dropped: what it gives is in reach below it.
    module _ (known : Memᴰ e (marks_of v s.marks)) (c : Covering rank g h b v s []) where
      without : (i : ℕ) (m : Move) → rank e.node ≤ i → InReachBelow rank g b v s [] (rank e.node) m → InReachBelow rank g b w (unstacked s r.marks n) [] i m
      without i m l (inl j) = inl (subst (Memᴰ m) (sym same_moves) j)
      without i m l (inr (inl x)) = absurd (Memᴰ.not-nil x.1)
      without i m l (inr (inr x)) =
          ⊎_elim (λ (q : x.0 ≡ e). absurd (omega (arith, same_rank q, x.2)))
          (λ (j : Memᴰ x.0 (pending_in w n)). inr (inr (x.0, j, omega (arith, x.2), x.3)))
          (last_or x.1)

      dropped_below : (i : ℕ) (m : Move) → InReachBelow rank g b v s [] i m → InReachBelow rank g b w (unstacked s r.marks n) [] i m
      dropped_below i m (inl j) = inl (subst (Memᴰ m) (sym same_moves) j)
      dropped_below i m (inr (inl x)) = absurd (Memᴰ.not-nil x.1)
      dropped_below i m (inr (inr x)) =
          ⊎_elim
          (λ (q : x.0 ≡ e). without i m (omega (arith, same_rank q, x.2)) (c.visited e known m (moved q x.3)))
          (λ (j : Memᴰ x.0 (pending_in w n)). inr (inr (x.0, j, x.2, x.3)))
          (last_or x.1)

      -- in reach, whatever the rank
      reach_some : (i : ℕ) (m : Move) → InReachBelow rank g b w (unstacked s r.marks n) [] i m → InReach g b w (unstacked s r.marks n) [] m
      reach_some i m (inl j) = inl j
      reach_some i m (inr (inl x)) = absurd (Memᴰ.not-nil x.1)
      reach_some i m (inr (inr x)) = inr (x.0, x.1, x.3)

      dropped_reach : (m : Move) → InReach g b v s [] m → InReach g b w (unstacked s r.marks n) [] m
      dropped_reach m (inl i) = inl (subst (Memᴰ m) (sym same_moves) i)
      dropped_reach m (inr x) =
          ⊎_elim
          (λ (q : x.0 ≡ e).
          reach_some (rank e.node) m (without (rank e.node) m (omega arith) (c.visited e known m (moved q x.2))))
          (λ (i : Memᴰ x.0 (pending_in w n)). inr (x.0, i, x.2))
          (last_or x.1)

      dropped_carried : Carried rank g h b v s [] w (unstacked s r.marks n)
      dropped_carried =
          record {
            covering = record {
              gathered = gathered_same same_members same_moves c.gathered;
              visited = λ x i m j.
                  dropped_below (rank x.node) m
                  (⊎_elim (λ (q : x ≡ e). c.visited x (subst (λ (z : NodeBeside). Memᴰ z (marks_of v s.marks)) (sym q) known) m j)
                  (λ (o : Memᴰ x (marks_of v s.marks)). c.visited x o m j)
                  (a.only x i));
              given = λ x i m j. c.given x (still_there i) m j;
            };
            carries = dropped_reach;
          }

  -- a turn from the node taken out and marked is a turn
  pub marked_turn : {nodes : List Node} {u : List ℕ} {t : Walk} → TurnOn rank nodes b w (unstacked s r.marks n) (e ∷ []) u t
      → TurnOn rank nodes b v s [] u t
  marked_turn {nodes} {u} {t} x =
      record {
        walking = x.walking;
        grown = grown_trans v w u b.first s.running s.running t.running marked_grown x.grown;
        lighter = omega (arith, x.lighter, same_weight);
        carried = λ g h o c.
            let y = x.carried g h (marked_sheet o) (marked_covering g h c) in
            record { covering = y.covering; carries = λ m i. y.carries m (marked_reach g h m i) };
      }

  pub marked_turn_over : {nodes : List Node} {u : List ℕ} → TurnOver rank nodes b w (unstacked s r.marks n) (e ∷ []) u
      → TurnOver rank nodes b v s [] u
  marked_turn_over x =
      record {
        passes = λ g h o c. x.passes g h (marked_sheet o) (marked_covering g h c);
        outside =
            outside_then a.outside x.outside (moves_at + b.first) work_end (omega (arith, first_low)) (omega arith) (omega arith)
            (omega arith);
      }

  -- so is one in which it is passed over since it was marked before
  pub passed_turn : (nodes : List Node) → r.fresh ≡ false → TurnOn rank nodes b v s [] w (unstacked s r.marks n)
  passed_turn nodes t =
      record {
        walking = marked_walking;
        grown = marked_grown;
        lighter =
            omega (
              arith,
              same_weight,
              weight_append rank (e ∷ []) (pending_in w n),
              weight_next rank [] e,
              weight_none rank,
              pow-le-pow_right {n = 3} (omega arith) {i = 0} {j = rank e.node + 1} (omega arith),
            );
        carried = λ g h o c. dropped_carried g h (a.known t) c;
      }
