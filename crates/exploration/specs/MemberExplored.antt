-- One member explored: what it asks of the walk and of the additions, and what its moves bring into the set.
use Rattle.std.specs.Prelude.{◌≡◌, refl, ◌⊎◌, Bool, true, false, ℕ, ◌+◌, ◌-◌, ◌≤◌, ◌<◌, length, set, eqb}
use Rattle.std.proofs.Math.Path.{sym, ap, subst}
use Rattle.std.proofs.Common.{◌∙◌, inl, inr, ⊎_elim, arith, length-append, eqb-true}
use mathlib.Core.List.Memᴰ
use mathlib.Core.List.{List, ◌++◌, map, Memᴰ}
use Rattle.std.proofs.Math.ListN.{get_or, length-map}
use Rattle.std.proofs.lemmas.Bool.{eqb-false}
use Rattle.work_layout.specs.Lists.{Distinct}
use Rattle.set_order.specs.Counting.{distinct_append, distinct_map}
use Rattle.work_layout.specs.Frames.{SameOutside, outside_wider, outside_again}
use Rattle.set_order.specs.Members.{mem_map, map_mem}
use Rattle.collected_moves.specs.TabulateLaws.{mem_tabulate}
use Rattle.sheet_types.specs.Sheet.{Node, Configuration}
use Rattle.member_table.specs.Orders.{Move}
use Rattle.member_table.specs.Moves.{moves, add}
use Rattle.work_layout.specs.Promise.{MemberMove}
use Rattle.ask_labels.specs.ClosureTable.{closures_agree}
use Rattle.ask_labels.specs.declared.Shelf.{Shelf}
use Rattle.ask_labels.specs.LabelShelf.{Shelved}
use Rattle.ask_labels.specs.LabelShelfLaws.{sets_few, shelved_agree}
use Rattle.member_table.specs.MemberTable.{member_in}
use Rattle.member_table.specs.MemberLaws.{member_id}
use Rattle.member_table.specs.TableInPart.{part_none}
use Rattle.collected_moves.specs.declared.Running.{Running}
use Rattle.std.specs.Prelude.{Option, Some, None}
use Rattle.collected_moves.specs.CollectedMoves.{Grown, member_part, members_of, moves_of}
use Rattle.collected_moves.specs.CollectedLaws.{moves_of_none, grown_trans}
use Rattle.walk_state.specs.SetGrowth.{Growth, InSet, InHand, Gathered}
use Rattle.walk_state.specs.SetGrowthLaws.{grown_members, moves_distinct, moves_length}
use Rattle.walk_state.specs.declared.Basis.{Basis}
use Rattle.walk_state.specs.declared.Walk.{Walk}
use Rattle.walk_state.specs.WalkState.{NodesLent, MemberFits, Walking, OnSheet}
use Rattle.member_moves.specs.MovesFound.{Collected, FoundOn, FoundOver, MovesFound}
use Rattle.third_rule.specs.ThirdRule.{Standing, OnTable, AllAddedOn, AddedOver, AllAdded}
use Rattle.set_order.specs.OrderedSet.{span_moves}
use Rattle.exploration.specs.declared.Plan.{Plan}
use Rattle.unexplored_members.specs.UnexploredMembers.{span_of, IsExplored}
use Rattle.exploration.specs.Exploration.{basis_of, Exploring, Done, Counted, ExploredFor}
use Rattle.exploration.specs.ExplorationSteps.{OnPlan, store_in, MemberOn, ExploredOver, MemberExplored}
use Rattle.exploration.specs.SpanLaws.{fits_carried, spanned, other_span, span_outside, spanned_outside, members_spanned, member_spanned, now_explored, explored_before, own_moves, others_moves, spanned_exploring}
use Rattle.work_layout.specs.WorkLayout.{work_end, spans_at, marks_at, set_room}

-- what is lent of the sheet does not depend on the store or on where moves begin
pub lent_carried : {rank : ℕ → ℕ} {table : List ℕ} {plan : Plan} (d f : ℕ) → NodesLent rank table (basis_of plan 0 0)
    → NodesLent rank table (basis_of plan d f)
lent_carried d f n =
    record {
      few = n.few;
      ranked = n.ranked;
      told = n.told;
      asked = n.asked;
      opens = n.opens;
      few_threads = n.few_threads;
      movable = n.movable;
    }

-- nor is the sheet of a growth
sheet_carried : {g : Growth} {nodes : List Node} {plan : Plan} {w : List ℕ} (d f : ℕ) → OnPlan g nodes plan w
    → OnSheet g nodes (basis_of plan d f) w
sheet_carried d f o =
    record { sound = o.sound; nodes_are = o.nodes_are; node_count_lem = o.node_count_lem; facts_are = o.facts_are; closures = o.closures }

-- the walk at its beginning: no move is collected, no node visited or to be visited
abbrev pub begun : Running → Shelf → Walk
begun s shelf = record { running = s; shelf = shelf; marks = 0; top = 0 }

module _ {plan : Plan} {v : List ℕ} {s : Running} (ex : Exploring v plan s) where
  -- a slice that is the same before the moves in hand has the same table
  pub plan_kept : {w : List ℕ} {low high : ℕ} {g : Growth} {nodes : List Node} → set_room ≤ low → SameOutside low high v w → OnPlan g nodes plan v
      → OnPlan g nodes plan w
  plan_kept h o t =
      let b = sets_few plan.facts ex.few_facts in
      record {
        sound = t.sound;
        nodes_are = t.nodes_are;
        node_count_lem = t.node_count_lem;
        facts_are = t.facts_are;
        closures = closures_agree t.closures (λ i l. o.at i (inl (omega arith)));
      }

  module _ (id : ℕ) (low : id < s.members) where
    id_member : Memᴰ (member_in (member_part v) id) (members_of v s)
    id_member = mem_tabulate (member_in (member_part v)) s.members id low

    -- the member itself fits
    pub id_fits : (d : ℕ) {x : Configuration} → x ≡ member_in (member_part v) id → MemberFits (basis_of plan d s.moves) x
    id_fits d e =
        subst (MemberFits (basis_of plan d s.moves)) (sym e) (fits_carried 0 0 d s.moves (ex.fit (member_in (member_part v) id) id_member))

    -- all is in order for the walk
    pub walk_begins : {rank : ℕ → ℕ} (d : ℕ) (shelf : Shelf) → d ≡ store_in v id → Shelved v plan.facts (store_in v id) shelf
        → Walking rank v (basis_of plan d s.moves) (begun s shelf)
    walk_begins d shelf e h =
        record {
          collecting = ex.collecting;
          fit = λ x m. fits_carried 0 0 d s.moves (ex.fit x m);
          small = λ m i. absurd (Memᴰ.not-nil (subst (Memᴰ m) (moves_of_none v s) i));
          marks = part_none v marks_at (omega (arith, ex.collecting.long));
          shelf_room = record {
            few = ex.few_facts;
            table = ex.table;
            store = omega (arith, e, (ex.fit (member_in (member_part v) id) id_member).store);
            long = ex.collecting.long;
          };
          shelved = subst (λ (n : ℕ). Shelved v plan.facts n shelf) (sym e) h;
          top = omega arith;
          entries = λ i l. absurd (omega arith);
        }

    module _ (zero : get_or v (spans_at + id) 0 ≡ 0) (g : Growth) (f : ExploredFor g v s) where
      -- the member in hand, with the moves of all that were explored before
      in_hand : InHand g
      in_hand =
          record {
            member = member_in (member_part v) id;
            in_set = f.members_in_lem (member_in (member_part v) id) id_member;
            earlier = f.counted.all;
            distinct = f.counted.distinct;
            moves_of_lem = λ x m.
                let y = f.counted.only x m in (
                  subst (InSet g) (sym y.3)
                      (f.members_in_lem (member_in (member_part v) y.0) (mem_tabulate (member_in (member_part v)) s.members y.0 y.1)),
                  y.4,
                );
            others = λ x m e.
                let y = f.counted.only x m in
                let q : y.0 ≡ id = member_id (member_part v) s.members ex.collecting.kept y.0 id y.1 low (sym y.3 ∙ e) in
                omega (arith, y.2, zero, ap (λ (n : ℕ). get_or v (spans_at + n) 0) q);
          }

      gathered : Gathered g in_hand v s.moves s
      unfolding in_hand
      gathered =
          record {
            before = f.counted.count;
            members_in_lem = f.members_in_lem;
            moves_of_lem = λ k m. absurd (Memᴰ.not-nil (subst (Memᴰ k) (moves_of_none v s) m));
          }

      hand_is : {x : Configuration} → x ≡ member_in (member_part v) id → in_hand.member ≡ x
      unfolding in_hand
      hand_is e = sym e

-- after the walk, what the additions ask
pub found_standing : {rank : ℕ → ℕ} {nodes : List Node} {plan : Plan} {v : List ℕ} {s : Running} {shelf : Shelf} {x : Configuration} {d : ℕ} {z : List ℕ} {t : Walk}
    → FoundOn rank nodes (basis_of plan d s.moves) v (begun s shelf) x z t → Standing z (basis_of plan d s.moves) t.running
found_standing f =
    record {
      collecting = f.walking.collecting;
      fit = f.walking.fit;
      small = f.walking.small;
      few_facts = f.walking.shelf_room.few;
      table = f.walking.shelf_room.table;
    }

module _ (nodes : List Node) (plan : Plan) (v : List ℕ) (s : Running) (id : ℕ) (ex : Exploring v plan s) (low : id < s.members)
    (zero : get_or v (spans_at + id) 0 ≡ 0) (d : ℕ) (x : Configuration) (is : x ≡ member_in (member_part v) id) (shelf : Shelf) where
  -- the walk passes a cap
  pub moves_over : (w : List ℕ) → FoundOver nodes (basis_of plan d s.moves) v (begun s shelf) x w → ExploredOver nodes plan v s w
  moves_over w f =
      record {
        passes = λ g o e.
            f.passes g (in_hand ex id low zero g e) (sheet_carried d s.moves o) (hand_is ex id low zero g e is) (gathered ex id low zero g e);
        outside = outside_wider f.outside spans_at work_end (omega arith) (omega arith);
      }

  module _ {rank : ℕ → ℕ} (y : List ℕ) (t : Walk) (found : FoundOn rank nodes (basis_of plan d s.moves) v (begun s shelf) x y t) where
    module _ (g : Growth) (o : OnPlan g nodes plan v) (e : ExploredFor g v s) where
      all_collected : Collected g (in_hand ex id low zero g e) (basis_of plan d s.moves) y t
      all_collected =
          found.collected g (in_hand ex id low zero g e) (sheet_carried d s.moves o) (hand_is ex id low zero g e is) (gathered ex id low zero g e)

      on_table : OnTable g (basis_of plan d s.moves) y
      on_table =
          let p = plan_kept ex {g = g} {nodes = nodes} (omega arith) found.grown.outside o in
          record { sound = p.sound; facts_are = p.facts_are; closures = p.closures }

    -- the additions pass a cap
    pub additions_over : (w : List ℕ) → AddedOver (basis_of plan d s.moves) y t.running w → ExploredOver nodes plan v s w
    additions_over w a =
        record {
          passes = λ g o e. a.passes g (in_hand ex id low zero g e) (on_table g o e) (all_collected g o e).gathered;
          outside =
              outside_again (outside_wider found.grown.outside spans_at work_end (omega arith) (omega arith))
              (outside_wider a.inside spans_at work_end (omega arith) (omega arith));
        }

    module _ (z : List ℕ) (u : Running) (a : AllAddedOn (basis_of plan d s.moves) y t.running z u) where
      grown : Grown v s.moves s z u
      grown = grown_trans v y z s.moves s t.running u found.grown a.kept.grown

      standing : Standing z (basis_of plan d s.moves) u
      standing = a.kept.standing

      after : List ℕ
      after = spanned plan v s id ex low d z u grown standing

      module _ (g : Growth) (o : OnPlan g nodes plan v) (e : ExploredFor g v s) where
        hand : InHand g
        hand = in_hand ex id low zero g e

        in_set : Gathered g hand z s.moves u
        unfolding hand
        in_set = a.kept.gathered g (in_hand ex id low zero g e) (on_table g o e) (all_collected g o e).gathered

        -- ---- members
        member_back : (p : Configuration) → Memᴰ p (members_of after u) → Memᴰ p (members_of z u)
        unfolding after
        member_back p m = subst (Memᴰ p) (members_spanned plan v s id ex low d z u grown standing) m

        member_on : (p : Configuration) → Memᴰ p (members_of z u) → Memᴰ p (members_of after u)
        unfolding after
        member_on p m = subst (Memᴰ p) (sym (members_spanned plan v s id ex low d z u grown standing)) m

        same_member : (i : ℕ) → i < s.members → member_in (member_part after) i ≡ member_in (member_part v) i
        unfolding after
        same_member i h = member_spanned plan v s id ex low d z u grown standing i h

        -- ---- the member in hand is done
        own_are : span_moves after id ≡ moves_of z s.moves u
        unfolding after
        own_are = own_moves plan v s id ex low d z u grown standing

        collected_of : (k : Move) → Memᴰ k (moves_of z s.moves u) → Memᴰ k (moves g.sheet (member_in (member_part v) id))
        unfolding hand in_hand
        collected_of k m = in_set.moves_of_lem k m

        collected_whole : (k : Move) → Memᴰ k (moves g.sheet (member_in (member_part v) id)) → Memᴰ k (moves_of z s.moves u)
        unfolding in_hand
        collected_whole k m = a.kept.grown.moves_keep k ((all_collected g o e).whole k m)

        own_done : Done g after u id
        own_done =
            record {
              moves_are = λ k. (
                λ m.
                    subst (λ (p : Configuration). Memᴰ k (moves g.sheet p)) (sym (same_member id low))
                    (collected_of k (subst (Memᴰ k) own_are m)),
                λ m.
                    subst (Memᴰ k) (sym own_are)
                    (collected_whole k (subst (λ (p : Configuration). Memᴰ k (moves g.sheet p)) (same_member id low) m)),
              );
              additions = λ k m i j b.
                  member_on (add g.sheet m.label k.target)
                  (a.added g (in_hand ex id low zero g e) (on_table g o e) (all_collected g o e).gathered k m (subst (Memᴰ k) own_are i)
                  (subst (Memᴰ m) own_are j) b);
            }

        -- ---- the others still are
        module _ (i : ℕ) (h : i < s.members) (ie : IsExplored v i) (n : i ≡ id → ⊥) where
          other_are : span_moves after i ≡ span_moves v i
          unfolding after
          other_are = others_moves plan v s id ex low d z u grown standing i h ie n

          other_done : Done g after u i
          other_done =
              let q = e.done i h ie in
              record {
                moves_are = λ k. (
                  λ m.
                      subst (λ (p : Configuration). Memᴰ k (moves g.sheet p)) (sym (same_member i h))
                      ((q.moves_are k).0 (subst (Memᴰ k) other_are m)),
                  λ m.
                      subst (Memᴰ k) (sym other_are)
                      ((q.moves_are k).1 (subst (λ (p : Configuration). Memᴰ k (moves g.sheet p)) (same_member i h) m)),
                );
                additions = λ k m p r b.
                    member_on (add g.sheet m.label k.target)
                    (grown_members grown (q.additions k m (subst (Memᴰ k) other_are p) (subst (Memᴰ m) other_are r) b));
              }

        -- by whether it is the member in hand
        before : (i : ℕ) → i < u.members → IsExplored after i → (i ≡ id → ⊥) → (i < s.members) × IsExplored v i
        unfolding after
        before i h q n = explored_before plan v s id ex low d z u grown standing i h q n

        all_done : (i : ℕ) → i < u.members → IsExplored after i → Done g after u i
        all_done i h q = go (eqb i id) refl
          where
            go : (b : Bool) → eqb i id ≡ b → Done g after u i
            go true r = subst (Done g after u) (sym (eqb-true i id r)) own_done
            go false r = let p = before i h q (eqb-false i id r) in other_done i p.0 p.1 (eqb-false i id r)

        -- ---- the moves counted
        of_member : Move → MemberMove
        of_member k = record { member = member_in (member_part v) id; move = k }

        new_moves : List MemberMove
        new_moves = map of_member (moves_of z s.moves u)

        new_only : (m : MemberMove) → Memᴰ m new_moves
            → (m.member ≡ member_in (member_part v) id) × Memᴰ m.move (moves_of z s.moves u)
        unfolding new_moves of_member
        new_only m i =
            let q = mem_map of_member (moves_of z s.moves u) i in (
              ap (λ (w : MemberMove). w.member) q.2,
              subst (λ (k : Move). Memᴰ k (moves_of z s.moves u)) (sym (ap (λ (w : MemberMove). w.move) q.2)) q.1,
            )

        new_whole : (k : Move) → Memᴰ k (moves_of z s.moves u)
            → Memᴰ (record { member = member_in (member_part v) id; move = k }) new_moves
        unfolding new_moves of_member
        new_whole k i = map_mem of_member i

        new_distinct : Distinct new_moves
        unfolding new_moves of_member
        new_distinct =
            distinct_map of_member (moves_of z s.moves u) (λ m k q. ap (λ (w : MemberMove). w.move) q) (moves_distinct standing.collecting)

        new_length : length new_moves ≡ u.moves - s.moves
        unfolding new_moves
        new_length = length-map (moves_of z s.moves u) of_member ∙ moves_length standing.collecting

        others_apart : (m : MemberMove) → Memᴰ m e.counted.all → m.member ≡ member_in (member_part v) id → ⊥
        unfolding in_hand
        others_apart m i q = (in_hand ex id low zero g e).others m i q

        explored_stays : (i : ℕ) → i < s.members → IsExplored v i → IsExplored after i
        unfolding after
        explored_stays i h q =
            let n : i ≡ id → ⊥ = λ r. omega (arith, q, zero, ap (λ (k : ℕ). get_or v (spans_at + k) 0) r) in
            omega (arith, q, other_span plan v s id ex low d z u grown standing i (omega (arith, h, ex.collecting.kept.room)) n)

        explored_now : IsExplored after id
        unfolding after
        explored_now = now_explored plan v s id ex low d z u grown standing

        all_counted : Counted g after u
        all_counted =
            record {
              all = e.counted.all ++ new_moves;
              distinct =
                  distinct_append e.counted.all new_moves e.counted.distinct new_distinct
                  (λ m i j. others_apart m i (new_only m j).0);
              count = omega (arith, length-append e.counted.all new_moves, e.counted.count, new_length, standing.collecting.room.1);
              only = λ m i.
                  ⊎_elim
                  (λ (j : Memᴰ m e.counted.all).
                  let q = e.counted.only m j in
                  (q.0, omega (arith, q.1, grown.members_grow), explored_stays q.0 q.1 q.2, q.3 ∙ sym (same_member q.0 q.1), q.4))
                  (λ (j : Memᴰ m new_moves).
                  let q = new_only m j in (
                    id,
                    omega (arith, low, grown.members_grow),
                    explored_now,
                    q.0 ∙ sym (same_member id low),
                    subst (λ (p : Configuration). Memᴰ m.move (moves g.sheet p)) (sym q.0) (collected_of m.move q.1),
                  ))
                  (Memᴰ.append_cases e.counted.all i);
              whole = λ i k h q m. go i k h q m (eqb i id) refl;
            }
          where
            go : (i : ℕ) (k : Move) → i < u.members → IsExplored after i → Memᴰ k (moves g.sheet (member_in (member_part after) i))
                → (b : Bool) → eqb i id ≡ b → Memᴰ (record { member = member_in (member_part after) i; move = k }) (e.counted.all ++ new_moves)
            go i k h q m true r =
                let p : member_in (member_part after) i ≡ member_in (member_part v) id =
                ap (member_in (member_part after)) (eqb-true i id r) ∙ same_member id low in
                subst (λ (c : Configuration). Memᴰ (record { member = c; move = k }) (e.counted.all ++ new_moves)) (sym p)
                (Memᴰ.append_right e.counted.all
                (new_whole k (collected_whole k (subst (λ (c : Configuration). Memᴰ k (moves g.sheet c)) p m))))
            go i k h q m false r =
                let l = before i h q (eqb-false i id r) in
                let p : member_in (member_part after) i ≡ member_in (member_part v) i = same_member i l.0 in
                subst (λ (c : Configuration). Memᴰ (record { member = c; move = k }) (e.counted.all ++ new_moves)) (sym p)
                (Memᴰ.append_left new_moves
                (e.counted.whole i k l.0 l.1 (subst (λ (c : Configuration). Memᴰ k (moves g.sheet c)) p m)))

        explored_after : ExploredFor g after u
        explored_after =
            record {
              members_in_lem = λ p m. in_set.members_in_lem p (member_back p m);
              seeds_in = λ p m. member_on p (grown_members grown (e.seeds_in p m));
              done = all_done;
              counted = all_counted;
            }

      -- the shelf still holds
      shelf_after : Shelved after plan.facts d t.shelf
      unfolding after
      shelf_after =
          let p = a.kept.inside in
          let q = span_outside plan v s id ex low d z u grown standing in
          shelved_agree y (spanned plan v s id ex low d z u grown standing) plan.facts d ex.few_facts
          (record {
            long = q.long ∙ p.long;
            table = λ i l. q.at i (inl (omega arith)) ∙ p.at i (inl (omega arith));
            shelf = λ i l h. q.at i (inr (omega arith)) ∙ p.at i (inr (omega arith));
          })
          t.shelf found.walking.shelved

      -- the member's span stored: it is explored
      pub member_explored : (w : List ℕ) → w ≡ set z (spans_at + id) (span_of s.moves u.moves) → d ≡ store_in v id
          → MemberOn nodes plan v s id w u t.shelf
      unfolding after
      member_explored w q r =
          subst (λ (l : List ℕ). MemberOn nodes plan v s id l u t.shelf) (sym q)
          (record {
            exploring = spanned_exploring plan v s id ex low d z u grown standing;
            explored = now_explored plan v s id ex low d z u grown standing;
            others = other_span plan v s id ex low d z u grown standing;
            shelved = subst (λ (n : ℕ). Shelved (spanned plan v s id ex low d z u grown standing) plan.facts n t.shelf) r shelf_after;
            outside = spanned_outside plan v s id ex low d z u grown standing;
            explored_for = λ g o e. explored_after g o e;
          })

-- ---- the answers taken apart
module _ (rank : ℕ → ℕ) {nodes : List Node} {b : Basis} {v : List ℕ} {s : Walk} {x : Configuration} {w : List ℕ} {r : Option Walk} where
  pub found_on : {t : Walk} → r ≡ Some t → MovesFound rank nodes b v s x w r → FoundOn rank nodes b v s x w t
  found_on e h = subst (MovesFound rank nodes b v s x w) e h

  pub found_over : r ≡ None → MovesFound rank nodes b v s x w r → FoundOver nodes b v s x w
  found_over e h = subst (MovesFound rank nodes b v s x w) e h

module _ {b : Basis} {v : List ℕ} {s : Running} {w : List ℕ} {r : Option Running} where
  pub added_on : {t : Running} → r ≡ Some t → AllAdded b v s w r → AllAddedOn b v s w t
  added_on e h = subst (AllAdded b v s w) e h

  pub added_over : r ≡ None → AllAdded b v s w r → AddedOver b v s w
  added_over e h = subst (AllAdded b v s w) e h

module _ (nodes : List Node) (plan : Plan) (v : List ℕ) (s : Running) (id : ℕ) (w : List ℕ) (r : Option Walk) where
  pub one_on : {t : Walk} → r ≡ Some t → MemberExplored nodes plan v s id w r → MemberOn nodes plan v s id w t.running t.shelf
  one_on e h = subst (MemberExplored nodes plan v s id w) e h

  pub one_over : r ≡ None → MemberExplored nodes plan v s id w r → ExploredOver nodes plan v s w
  one_over e h = subst (MemberExplored nodes plan v s id w) e h
