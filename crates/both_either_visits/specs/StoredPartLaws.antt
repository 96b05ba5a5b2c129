-- Parts stored in the place of a both and of an either give its moves, and a part for which there are too many threads gives a
-- move to a configuration of too many threads.
use Rattle.std.specs.Prelude.{◌≡◌, refl, ◌⊎◌, Bool, true, false, cond, ℕ, ◌+◌, ◌^◌, ◌≤◌, ◌<◌, length, get_or}
use Rattle.std.proofs.Common.{sym, ap, ◌∙◌, subst, inl, inr, ⊎_elim, arith}
use mathlib.Core.List.Memᴰ
use mathlib.Core.List.{List, [], ◌∷◌, ◌++◌, Memᴰ}
use Rattle.nodes_to_visit.specs.Lists.{sort_up}
use Rattle.sheet_types.specs.SortingLaws.{insert_all}
use Rattle.nodes_to_visit.specs.Frames.{SameOutside, outside_same, outside_wider}
use Rattle.sheet_types.specs.Sheet.{Node, both, either, Sheet, node_of, opened}
use Rattle.threads_beside.specs.Ranks.{OfParts, Part, Ranked}
use Rattle.nodes_to_visit.specs.Orders.{Move}
use Rattle.threads_beside.specs.NodeMoves.{NodeBeside, node_moves, placed_moves, movable}
use Rattle.threads_beside.specs.NodeMoveLaws.{moves_of_both, moves_of_either, still_node, movable_node}
use Rattle.threads_beside.specs.ThreadLaws.{insert_all_sorts, sort_append_length}
use Rattle.nodes_to_visit.specs.Promise.{PassesLimit}
use Rattle.walk_state.specs.SetGrowth.{Growth, InHand}
use Rattle.walk_state.specs.SetGrowthLaws.{move_threads_pass}
use Rattle.nodes_to_visit.specs.NodesToVisit.{PendingPacked, Entered}
use Rattle.nodes_to_visit.specs.NodesToVisitLaws.{weight, weight_none, weight_append, weight_next, weight_parts}
use Rattle.walk_state.specs.declared.Basis.{Basis}
use Rattle.walk_state.specs.declared.Walk.{Walk}
use Rattle.std.specs.Prelude.{Option, Some, None}
use Rattle.walk_state.specs.WalkState.{NodesOf, VisitFits, Walking, Covering, OnSheet, TurnOn, TurnOver}
use Rattle.walk_state.specs.PushedInWalk.{threads_joined, topped, NodesAdded, added_none, entered_added, entered_few, entered_long, entered_packed, entered_walking, added_again, GiveSame, given_of_one, give_same_refl, parts_give, added_turn}
use Rattle.sheet_types.specs.NodeTable.{opened_of, movables_of}
use Rattle.sheet_types.specs.HeldSheet.{opened_in}
use Rattle.part_entry.specs.PartEntry.{beside_of, PassedOver, PartStored, PartTooLong, PartAs}
use Rattle.both_either_visits.specs.StoredParts.{NodeKnown, BothTurned, EitherTurned}
use Rattle.nodes_to_visit.specs.WorkLayout.{work_end, moves_at, pending_at, pending_end}

-- ---- marks
still_mark : (x : Bool) (mark : ℕ) → mark ≡ cond x 1 0 → mark ≡ 0 → x ≡ false
still_mark true mark e z = absurd (omega arith)
still_mark false mark e z = refl

moving_mark : (x : Bool) (mark : ℕ) → mark ≡ cond x 1 0 → (mark ≡ 0 → ⊥) → x ≡ true
moving_mark true mark e n = refl
moving_mark false mark e n = absurd (n e)

-- ---- at most one node was stored, the slice is as long as it was, and every entry has numbers that stand for a node
part_room : {rank : ℕ → ℕ} {mark : ℕ} {x : NodeBeside} {limit n : ℕ} {v w : List ℕ} {s t : Walk}
    → PassedOver mark v s w t ⊎ PartStored rank mark x limit n v s w t → (t.top ≤ s.top + 1) × (length w ≡ length v)
part_room {s = s} {t} (inl o) =
    let a : t.top ≡ s.top = ap (λ (i : Walk). i.top) o.walk in (omega arith, ap length o.same)
part_room (inr o) = (entered_few o.entered, entered_long o.entered)

part_packed : {rank : ℕ → ℕ} {mark : ℕ} {x : NodeBeside} {limit n : ℕ} {v w : List ℕ} {s t : Walk} → ((i : ℕ) → i < s.top → PendingPacked v i)
    → PassedOver mark v s w t ⊎ PartStored rank mark x limit n v s w t → (i : ℕ) → i < t.top → PendingPacked w i
part_packed {v = v} {w} {s} {t} f (inl o) i l =
    let a : t.top ≡ s.top = ap (λ (i : Walk). i.top) o.walk in
    subst (λ (z : List ℕ). PendingPacked z i) (sym o.same) (f i (omega arith))
part_packed f (inr o) i l = entered_packed f o.entered i l

-- ---- the weight of one node
weight_one : (rank : ℕ → ℕ) (e : NodeBeside) → weight rank (e ∷ []) ≡ 3 ^ (rank e.node + 1)
weight_one rank e = weight_next rank [] e ∙ rw (weight_none rank) (zero_plus (3 ^ (rank e.node + 1)))
  where
    zero_plus : (n : ℕ) → 0 + n ≡ n
    zero_plus n = omega arith

-- ---- one part
-- none or one node was stored, and what was stored gives the moves of the part
record PartAdded (rank : ℕ → ℕ) (nodes : List Node) (b : Basis) (x : NodeBeside) (v : List ℕ) (s : Walk) (w : List ℕ) (t : Walk) : Type 0 where
  stored : List NodeBeside
  added : NodesAdded rank v s stored w t
  walking : Walking rank w b t
  top : t.top ≤ s.top + 1
  light : weight rank stored ≤ 3 ^ (rank x.node + 1)
  number : (y : NodeBeside) → Memᴰ y stored → y.node ≡ x.node
  give : (sheet : Sheet) → sheet.nodes ≡ nodes → GiveSame sheet b.store (x ∷ []) stored

-- a part that is among the nodes to visit
stored_part : {rank : ℕ → ℕ} (nodes : List Node) (b : Basis) (x : NodeBeside) (n next : ℕ) (v : List ℕ) (s : Walk) (w : List ℕ) → Walking rank v b s
    → VisitFits b x → rank x.node < n → n + s.top ≤ 64 → Entered rank v s.top n x w next → PartAdded rank nodes b x v s w (topped s next)
stored_part {rank} nodes b x n next v s w k fit low room p =
    record {
      stored = x ∷ [];
      added = entered_added (omega arith) p;
      walking = entered_walking k fit low room p;
      top = entered_few p;
      light = omega (arith, weight_one rank x);
      number = λ y m. ap (λ (z : NodeBeside). z.node) (Memᴰ.eq_of_singleton m);
      give = λ sheet e. give_same_refl sheet b.store (x ∷ []);
    }

-- one of the nodes is a node of the sheet
on_sheet_lem : {rank : ℕ → ℕ} (nodes : List Node) (b : Basis) → NodesOf rank b nodes → (x : NodeBeside) → x.node < b.nodes
    → (sheet : Sheet) → sheet.nodes ≡ nodes → x.node < length sheet.nodes
on_sheet_lem nodes b of x inside sheet e = subst (λ (l : List Node). x.node < length l) (sym e) (omega (arith, of.count))

module _ {rank : ℕ → ℕ} (nodes : List Node) (b : Basis) (of : NodesOf rank b nodes) (x : NodeBeside) (inside : x.node < b.nodes)
    (mark : ℕ) (is : mark ≡ cond (movable nodes x.node) 1 0) where
  -- a part that cannot move gives none
  passed_gives : mark ≡ 0 → (sheet : Sheet) → sheet.nodes ≡ nodes → GiveSame sheet b.store (x ∷ []) []
  passed_gives z sheet e =
      let none : node_moves sheet b.store x.threads x.node ≡ [] =
      still_node sheet (subst (Ranked rank) (sym e) of.ranked) b.store x.threads x.node (on_sheet_lem nodes b of x inside sheet e)
      (subst (λ (l : List Node). movable l x.node ≡ false) (sym e) (still_mark (movable nodes x.node) mark is z)) in
      record {
        onward = λ m y. absurd (Memᴰ.not-nil (subst (Memᴰ m) none (given_of_one sheet b.store y)));
        back = λ m y. absurd (Memᴰ.not-nil y.1);
      }

  part_added : {n : ℕ} {v w : List ℕ} {s t : Walk} → Walking rank v b s → (length x.threads ≤ b.caps.threads → VisitFits b x)
      → rank x.node < n → n + s.top ≤ 64 → PassedOver mark v s w t ⊎ PartStored rank mark x b.caps.threads n v s w t
      → PartAdded rank nodes b x v s w t
  part_added {n} {v} {w} {s} {t} k fit h room (inl o) =
      subst (λ (l : List ℕ). PartAdded rank nodes b x v s l t) (sym o.same)
      (subst (λ (r : Walk). PartAdded rank nodes b x v s v r) (sym o.walk)
      (record {
        stored = [];
        added = added_none v s;
        walking = k;
        top = omega arith;
        light = omega (arith, weight_none rank);
        number = λ y m. absurd (Memᴰ.not-nil m);
        give = passed_gives o.still;
      }))
  part_added {n} {v} {w} {s} {t} k fit h room (inr o) =
      subst (λ (r : Walk). PartAdded rank nodes b x v s w r) (sym o.walk)
      (stored_part nodes b x n t.top v s w k (fit o.few) h room o.entered)

  -- a part for which there are too many threads gives a move to that many
  part_passes : {u v w : List ℕ} {s : Walk} {e : NodeBeside} → PartTooLong mark x b.caps.threads v w → (g : Growth) (h : InHand g)
      → OnSheet g nodes b u → Covering rank g h b u s (e ∷ [])
      → ((m : Move) → Memᴰ m (placed_moves g.sheet b.store x) → Memᴰ m (placed_moves g.sheet b.store e))
      → PassesLimit g.sheet g.limits g.seeds
  part_passes {u} {v} {w} {s} {e} o g h on c within =
      let m =
      movable_node g.sheet on.sound.well_formed b.store x.threads x.node (on_sheet_lem nodes b of x inside g.sheet on.nodes_are)
      (subst (λ (l : List Node). movable l x.node ≡ true) (sym on.nodes_are)
      (moving_mark (movable nodes x.node) mark is o.moves)) in
      move_threads_pass on.sound h
      (c.given e (Memᴰ.head refl) m.0 (within m.0 m.1)) (omega (arith, o.many, m.2))

-- ---- two parts stored in the place of a node that gives their moves
parts_turn : {rank : ℕ → ℕ} (nodes : List Node) (b : Basis) (e p q : NodeBeside) {u v w : List ℕ} {s r t : Walk} → Walking rank u b s
    → rank p.node < rank e.node → rank q.node < rank e.node
    → ((sheet : Sheet) → sheet.nodes ≡ nodes
    → placed_moves sheet b.store e ≡ placed_moves sheet b.store p ++ placed_moves sheet b.store q)
    → PartAdded rank nodes b p u s v r → PartAdded rank nodes b q v r w t → TurnOn rank nodes b u s (e ∷ []) w t
parts_turn {rank} nodes b e p q k hp hq same f g =
    added_turn k (added_again f.added g.added) nodes g.walking
    (omega (
      arith,
      weight_append rank f.stored g.stored,
      f.light,
      g.light,
      weight_one rank e,
      weight_parts (rank p.node) (rank q.node) (rank e.node) hp hq,
    ))
    (λ x y i j.
    let n : rank y.node ≡ rank e.node = ap (λ (z : NodeBeside). rank z.node) (Memᴰ.eq_of_singleton j) in
    ⊎_elim (λ (o : Memᴰ x f.stored). omega (arith, ap rank (f.number x o)))
    (λ (o : Memᴰ x g.stored). omega (arith, ap rank (g.number x o)))
    (Memᴰ.append_cases f.stored i))
    (λ sheet n. parts_give sheet b.store e p q (same sheet n) (f.give sheet n) (g.give sheet n))

-- ---- a both
module _ {rank : ℕ → ℕ} (table : List ℕ) (p q : ℕ) (b : Basis) (v : List ℕ) (s : Walk) (e : NodeBeside)
    (k : Walking rank v b s) (fit : VisitFits b e) (hp : Part rank b.nodes e.node p) (hq : Part rank b.nodes e.node q)
    (high : rank e.node + s.top < 64) where
  -- node i beside the threads of node j
  abbrev beside : List Node → ℕ → ℕ → NodeBeside
  beside nodes i j = record { node = i; threads = sort_up (opened nodes j ++ e.threads) }

  beside_is : (nodes : List Node) (i j : ℕ) → opened_in (opened_of table) j ≡ opened nodes j
      → beside_of i (opened_in (opened_of table) j) e ≡ beside nodes i j
  beside_is nodes i j o =
      ap (λ (l : List ℕ). record { node = i; threads = insert_all e.threads l }) o
      ∙ ap (λ (l : List ℕ). record { node = i; threads = l }) (insert_all_sorts e.threads (opened nodes j) fit.threads.ascending)

  beside_fits : (nodes : List Node) → NodesOf rank b nodes → (i j : ℕ) → i < b.nodes → j < b.nodes
      → length (beside nodes i j).threads ≤ b.caps.threads → VisitFits b (beside nodes i j)
  beside_fits nodes of i j hi hj few =
      record {
        node = hi;
        threads = threads_joined nodes of j hj fit.threads (omega (arith, sort_append_length (opened nodes j) e.threads));
      }

  both_moves : (nodes : List Node) → NodesOf rank b nodes → node_of nodes e.node ≡ both p q
      → (sheet : Sheet) → sheet.nodes ≡ nodes
      → placed_moves sheet b.store e ≡ placed_moves sheet b.store (beside nodes p q) ++ placed_moves sheet b.store (beside nodes q p)
  both_moves nodes of is sheet n =
      subst (λ (ns : List Node).
      placed_moves sheet b.store e
      ≡ node_moves sheet b.store (sort_up (opened ns q ++ e.threads)) p
      ++ node_moves sheet b.store (sort_up (opened ns p ++ e.threads)) q) n
      (moves_of_both sheet (subst (Ranked rank) (sym n) of.ranked) b.store e.threads e.node (on_sheet_lem nodes b of e fit.node sheet n) p q
      (subst (λ (ns : List Node). node_of ns e.node ≡ both p q) (sym n) is))

  first_outside : moves_at + b.first ≤ pending_at
  first_outside = omega (arith, k.collecting.room.1, k.collecting.room.2, k.collecting.caps.1)

  -- there are too many threads for part i beside those of j, whose moves are among those of e
  part_over : (nodes : List Node) → NodesOf rank b nodes → (i j : ℕ) → i < b.nodes → NodeKnown nodes table i
      → NodeKnown nodes table j
      → ((sheet : Sheet) → sheet.nodes ≡ nodes → (m : Move) → Memᴰ m (placed_moves sheet b.store (beside nodes i j))
      → Memᴰ m (placed_moves sheet b.store e))
      → {u w : List ℕ} → SameOutside (moves_at + b.first) work_end v u
      → PartTooLong (get_or (movables_of table) i 0) (beside_of i (opened_in (opened_of table) j) e) b.caps.threads u w
      → TurnOver rank nodes b v s (e ∷ []) w
  part_over nodes of i j inside ki kj within {u} {w} o a =
      record {
        passes = λ g h on c.
            part_passes nodes b of (beside nodes i j) inside (get_or (movables_of table) i 0) ki.mark
            (subst (λ (x : NodeBeside). PartTooLong (get_or (movables_of table) i 0) x b.caps.threads u w) (beside_is nodes i j kj.opens) a)
            g h on c (within g.sheet on.nodes_are);
        outside = subst (SameOutside (moves_at + b.first) work_end v) (sym a.same) o;
      }

  first_over : (w : List ℕ) → PartTooLong (get_or (movables_of table) p 0) (beside_of p (opened_in (opened_of table) q) e) b.caps.threads v w
      → BothTurned rank table p q b v s e w None
  first_over w a = record {
    turned = λ nodes of is kp kq.
        part_over nodes of p q hp.inside kp kq
        (λ sheet n m i.
        subst (Memᴰ m) (sym (both_moves nodes of is sheet n)) (Memᴰ.append_left (placed_moves sheet b.store (beside nodes q p)) i))
        (outside_same (moves_at + b.first) work_end v) a;
  }

  pub both_first_over : (w : List ℕ) (answer : Option Walk) → answer ≡ None
      → PartAs rank (get_or (movables_of table) p 0) (beside_of p (opened_in (opened_of table) q) e) b.caps.threads (rank e.node) v s w answer
      → BothTurned rank table p q b v s e w None
  both_first_over w answer told a =
      first_over w (subst (PartAs rank (get_or (movables_of table) p 0) (beside_of p (opened_in (opened_of table) q) e) b.caps.threads (rank e.node) v s w) told a)

  -- the first part is stored or passed over, and then the second
  module _ (u : List ℕ) (r : Walk) (answer : Option Walk) (told : answer ≡ Some r)
      (a : PartAs rank (get_or (movables_of table) p 0) (beside_of p (opened_in (opened_of table) q) e) b.caps.threads (rank e.node) v s u answer) where
    first : PartAs rank (get_or (movables_of table) p 0) (beside_of p (opened_in (opened_of table) q) e) b.caps.threads (rank e.node) v s u (Some r)
    first = subst (PartAs rank (get_or (movables_of table) p 0) (beside_of p (opened_in (opened_of table) q) e) b.caps.threads (rank e.node) v s u) told a

    -- there is room for the second
    pub both_room : (r.top < 64) × (pending_end ≤ length u) × ((i : ℕ) → i < r.top → PendingPacked u i)
    both_room =
        let m = part_room first in (
          omega (arith, m.0),
          omega (arith, m.1, k.collecting.long),
          part_packed (λ i l. (k.entries i l).packed) first,
        )

    first_added : (nodes : List Node) → NodesOf rank b nodes → NodeKnown nodes table p
        → NodeKnown nodes table q → PartAdded rank nodes b (beside nodes p q) v s u r
    first_added nodes of kp kq =
        part_added nodes b of (beside nodes p q) hp.inside (get_or (movables_of table) p 0) kp.mark k
        (beside_fits nodes of p q hp.inside hq.inside) hp.lower (omega arith)
        (subst (λ (x : NodeBeside). PartAs rank (get_or (movables_of table) p 0) x b.caps.threads (rank e.node) v s u (Some r)) (beside_is nodes p q kq.opens) first)

    pub both_then : (w : List ℕ) (t : Option Walk)
        → PartAs rank (get_or (movables_of table) q 0) (beside_of q (opened_in (opened_of table) p) e) b.caps.threads (rank e.node) u r w t
        → BothTurned rank table p q b v s e w t
    both_then w (Some t) x = record {
      turned = λ nodes of is kp kq.
          let f = first_added nodes of kp kq in
          parts_turn nodes b e (beside nodes p q) (beside nodes q p) k hp.lower hq.lower (both_moves nodes of is) f
          (part_added nodes b of (beside nodes q p) hq.inside (get_or (movables_of table) q 0) kq.mark f.walking
          (beside_fits nodes of q p hq.inside hp.inside) hq.lower
          (omega (arith, f.top))
          (subst (λ (y : NodeBeside). PartAs rank (get_or (movables_of table) q 0) y b.caps.threads (rank e.node) u r w (Some t)) (beside_is nodes q p kp.opens) x));
    }
    both_then w None x = record {
      turned = λ nodes of is kp kq.
          part_over nodes of q p hq.inside kq kp
          (λ sheet n m i.
          subst (Memᴰ m) (sym (both_moves nodes of is sheet n)) (Memᴰ.append_right (placed_moves sheet b.store (beside nodes p q)) i))
          (outside_wider (first_added nodes of kp kq).added.outside (moves_at + b.first) work_end first_outside (omega arith)) x;
    }

-- ---- an either
pub either_turned : {rank : ℕ → ℕ} (p q n one two : ℕ) (u v w : List ℕ) (s : Walk) (e : NodeBeside) → n ≡ rank e.node
    → rank p < rank e.node → rank q < rank e.node → rank e.node + s.top < 64
    → Entered rank u s.top n (record { node = p; threads = e.threads }) v one
    → Entered rank v one n (record { node = q; threads = e.threads }) w two → EitherTurned rank p q u s e w (topped s two)
either_turned {rank} p q n one two u v w s e high_is hp hq high f g = record {
  turned = λ b k fit nodes of is.
      let x : NodeBeside = record { node = p; threads = e.threads } in
      let y : NodeBeside = record { node = q; threads = e.threads } in
      let parts : Part rank (length nodes) e.node p × Part rank (length nodes) e.node q =
      subst (OfParts (Part rank (length nodes) e.node)) is (of.ranked.parts e.node) in
      let first : PartAdded rank nodes b x u s v (topped s one) =
      stored_part nodes b x n one u s v k (record { node = omega (arith, parts.0.inside, of.count); threads = fit.threads })
      (omega arith) (omega arith) f in
      let second : PartAdded rank nodes b y v (topped s one) w (topped s two) =
      stored_part nodes b y n two v (topped s one) w first.walking
      (record { node = omega (arith, parts.1.inside, of.count); threads = fit.threads }) (omega arith) (omega (arith, first.top)) g in
      parts_turn nodes b e x y k hp hq
      (λ sheet o.
      moves_of_either sheet (subst (Ranked rank) (sym o) of.ranked) b.store e.threads e.node (on_sheet_lem nodes b of e fit.node sheet o) p q
      (subst (λ (ns : List Node). node_of ns e.node ≡ either p q) (sym o) is)) first second;
}
