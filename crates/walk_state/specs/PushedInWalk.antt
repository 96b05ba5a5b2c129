-- Nodes stored to be visited while nothing else changes: all stays in order, what was there stays, and where the nodes stored
-- give together the moves of one node that was taken out, nothing in reach is lost and less is left to do.
use Rattle.std.specs.Prelude.{◌≡◌, refl, ◌⊎◌, Bool, true, false, ℕ, zero, suc, ◌+◌, ◌-◌, ◌^◌, ◌≤◌, ◌<◌, length, get_or, eqb, ltb}
use Rattle.std.proofs.Common.{sym, ap, ap₂, ◌∙◌, subst, inl, inr, ⊎_elim, arith, eqb-true, ltb-true, ltb-false}
use mathlib.Core.List.Memᴰ
use mathlib.Core.List.{List, [], ◌∷◌, ◌++◌, map, append-nil, append_assoc, Memᴰ}
use Rattle.std.proofs.lemmas.Bool.{eqb-false}
use Rattle.nodes_to_visit.specs.Lists.{sort_up}
use Rattle.nodes_to_visit.specs.AscendingLaws.{sort_up_only, sort_up_not_falling}
use Rattle.nodes_to_visit.specs.Frames.{SameOutside, outside_same, outside_wider, outside_again}
use Rattle.collected_moves.specs.Tabulate.{tabulate, tabulate_at, tabulate_next, tabulate_same}
use Rattle.collected_moves.specs.TabulateLaws.{mem_tabulate, tabulate_mem}
use Rattle.nodes_to_visit.specs.Sheet.{Node, stop, tell, ask, both, either, Sheet, node_of, opening_of, open_within, opened}
use Rattle.movable_nodes.specs.Ranks.{OfParts, Part, Ranked}
use Rattle.nodes_to_visit.specs.Orders.{Move}
use Rattle.movable_nodes.specs.NodeMoves.{NodeBeside, placed_moves}
use Rattle.movable_nodes.specs.ThreadLaws.{sort_append_length}
use Rattle.collected_moves.specs.MemberTable.{members_in, part_at}
use Rattle.collected_moves.specs.TableInPart.{part_outside, kept_outside}
use Rattle.ask_labels.specs.LabelShelfLaws.{room_agree, SameShelf, shelved_agree}
use Rattle.collected_moves.specs.CollectedMoves.{Grown, members_of, moves_of}
use Rattle.collected_moves.specs.CollectedFrames.{members_outside, moves_outside, collecting_outside, grown_outside}
use Rattle.set_growth.specs.SetGrowth.{Growth, InHand}
use Rattle.set_growth.specs.SetGrowthLaws.{gathered_same}
use Rattle.nodes_to_visit.specs.ThreadsBeside.{placed}
use Rattle.nodes_to_visit.specs.NodesToVisit.{PendingPacked, pending_one, pending_in, Pushed, PutAmong, Entered, there, put}
use Rattle.nodes_to_visit.specs.NodesToVisitLaws.{pushed_below, pushed_packed, weight, weight_none, weight_append, weight_next}
use Rattle.walk_state.specs.declared.Basis.{Basis}
use Rattle.walk_state.specs.declared.Walk.{Walk}
use Rattle.walk_state.specs.WalkState.{NodesOf, ThreadsFit, VisitFits, Entry, marks_of, Walking, InReach, InReachBelow, Covering, Carried, TurnOn}
use Rattle.collected_moves.specs.WorkLayout.{moves_at, marks_at, pending_at, pending_end, set_room}

-- ---- threads that fit
-- each thread of one of the nodes is one of them
opened_within : {rank : ℕ → ℕ} (ns : List Node) → Ranked rank ns → (f k : ℕ) → k < length ns → {j : ℕ} → Memᴰ j (open_within f ns k)
    → j < length ns
unfolding open_within
opened_within ns low zero k l m = absurd (Memᴰ.not-nil m)
opened_within {rank} ns low (suc f) k l {j} m = go (λ i a o. opened_within ns low f i a o) (node_of ns k) (low.parts k) m
  where
    here : Memᴰ j (k ∷ []) → j < length ns
    here o = let e : j ≡ k = Memᴰ.eq_of_singleton o in omega arith

    go : ((i : ℕ) → i < length ns → Memᴰ j (open_within f ns i) → j < length ns) → (n : Node) → OfParts (Part rank (length ns) k) n
        → Memᴰ j (opening_of (open_within f ns) k n) → j < length ns
    go ih stop h o = absurd (Memᴰ.not-nil o)
    go ih (tell c) h o = here o
    go ih (ask c q) h o = here o
    go ih (both p q) h o =
        ⊎_elim (λ (a : Memᴰ j (open_within f ns p)). ih p h.0.inside a) (λ (a : Memᴰ j (open_within f ns q)). ih q h.1.inside a)
        (Memᴰ.append_cases (open_within f ns p) o)
    go ih (either p q) h o = here o

-- threads that fit, with those of a node of the sheet put among them where they are not too many
pub threads_joined : {rank : ℕ → ℕ} {b : Basis} {ts : List ℕ} (ns : List Node) → NodesOf rank b ns → (k : ℕ) → k < b.nodes → ThreadsFit b ts
    → length (opened ns k) + length ts ≤ b.caps.threads → ThreadsFit b (sort_up (opened ns k ++ ts))
threads_joined {b = b} {ts} ns of k l fit few =
    record {
      few = omega (arith, sort_append_length (opened ns k) ts);
      ascending = sort_up_not_falling (opened ns k ++ ts);
      nodes = λ t m.
          ⊎_elim
          (λ (o : Memᴰ t (opened ns k)).
          omega (arith, opened_within ns of.ranked (length ns) k (omega (arith, of.count)) o, of.count))
          (λ (o : Memᴰ t ts). fit.nodes t o)
          (Memᴰ.append_cases (opened ns k) (sort_up_only (opened ns k ++ ts) m));
    }

-- ---- nodes stored
-- a node put in among others adds its weight
module _ (rank : ℕ → ℕ) (f g : ℕ → NodeBeside) (k : ℕ) (x : NodeBeside) (below : (i : ℕ) → i < k → g i ≡ f i) (here : g k ≡ x) where
  put_last : (n : ℕ) → k ≡ n → weight rank (tabulate g (n + 1)) ≡ weight rank (tabulate f n) + 3 ^ (rank x.node + 1)
  put_last n e =
      ap (weight rank) (tabulate_next g n) ∙ weight_next rank (tabulate g n) (g n)
      ∙ ap₂ (λ (l : List NodeBeside) (y : NodeBeside). weight rank l + 3 ^ (rank y.node + 1))
      (tabulate_same g f n (λ i l. below i (omega arith))) (ap g (sym e) ∙ here)

  put_weight : (n : ℕ) → k ≤ n → ((i : ℕ) → k ≤ i → i < n → g (i + 1) ≡ f i)
      → weight rank (tabulate g (n + 1)) ≡ weight rank (tabulate f n) + 3 ^ (rank x.node + 1)
  put_weight zero h above = put_last 0 (omega arith)
  put_weight (suc m) h above = go (put_weight m) (eqb k (suc m)) refl
    where
      swap : (a c d u y z q : ℕ) → a ≡ c + y → c ≡ d + q → u ≡ d + z → y ≡ z → a ≡ u + q
      swap a c d u y z q e f g h = omega arith

      go : (k ≤ m → ((i : ℕ) → k ≤ i → i < m → g (i + 1) ≡ f i) → weight rank (tabulate g (m + 1)) ≡ weight rank (tabulate f m) + 3 ^ (rank x.node + 1))
          → (b : Bool) → eqb k (suc m) ≡ b → weight rank (tabulate g (suc m + 1)) ≡ weight rank (tabulate f (suc m)) + 3 ^ (rank x.node + 1)
      go ih true e = put_last (suc m) (eqb-true k (suc m) e)
      go ih false e =
          let l : k ≤ m = omega (arith, eqb-false k (suc m) e) in
          let n-is : suc m ≡ m + 1 = omega arith in
          rw n-is (swap (weight rank (tabulate g (m + 1 + 1))) (weight rank (tabulate g (m + 1))) (weight rank (tabulate f m)) (weight rank (tabulate f (m + 1)))
          (3 ^ (rank (g (m + 1)).node + 1)) (3 ^ (rank (f m).node + 1)) (3 ^ (rank x.node + 1))
          (ap (weight rank) (tabulate_next g (m + 1)) ∙ weight_next rank (tabulate g (m + 1)) (g (m + 1)))
          (ih l (λ i a b. above i a (omega arith)))
          (ap (weight rank) (tabulate_next f m) ∙ weight_next rank (tabulate f m) (f m))
          (ap (λ (y : NodeBeside). 3 ^ (rank y.node + 1)) (above m l (omega arith))))

-- the walk with another number of nodes to visit
abbrev pub topped : Walk → ℕ → Walk
topped s n = record { running = s.running; shelf = s.shelf; marks = s.marks; top = n }

-- these nodes are to be visited with the others, none is lost and there is no other, and nothing else was changed
pub record NodesAdded (rank : ℕ → ℕ) (v : List ℕ) (s : Walk) (more : List NodeBeside) (w : List ℕ) (t : Walk) : Type 0 where
  pub outside : SameOutside pending_at pending_end v w
  pub walk : t ≡ topped s t.top
  pub kept : (e : NodeBeside) → Memᴰ e (pending_in v s.top ++ more) → Memᴰ e (pending_in w t.top)
  pub only : (e : NodeBeside) → Memᴰ e (pending_in w t.top) → Memᴰ e (pending_in v s.top ++ more)
  pub light : weight rank (pending_in w t.top) ≤ weight rank (pending_in v s.top) + weight rank more

pub added_none : {rank : ℕ → ℕ} (v : List ℕ) (s : Walk) → NodesAdded rank v s [] v s
added_none v s =
    record {
      outside = outside_same pending_at pending_end v;
      walk = refl;
      kept = λ e i. subst (Memᴰ e) (append-nil (pending_in v s.top)) i;
      only = λ e i. Memᴰ.append_left [] i;
      light = omega arith;
    }

-- one node, which was there already or was put in
module _ {rank : ℕ → ℕ} {v : List ℕ} {s : Walk} {x : NodeBeside} where
  entered_there : (i : ℕ) → i < s.top → pending_one v i ≡ x → NodesAdded rank v s (x ∷ []) v s
  entered_there i l e =
      record {
        outside = outside_same pending_at pending_end v;
        walk = refl;
        kept = λ y j.
            ⊎_elim (λ (k : Memᴰ y (pending_in v s.top)). k)
            (λ (k : Memᴰ y (x ∷ [])).
            subst (λ (z : NodeBeside). Memᴰ z (pending_in v s.top)) (e ∙ sym (Memᴰ.eq_of_singleton k))
            (mem_tabulate (pending_one v) s.top i l))
            (Memᴰ.append_cases (pending_in v s.top) j);
        only = λ y j. Memᴰ.append_left (x ∷ []) j;
        light = omega arith;
      }

  entered_put : {n : ℕ} {w : List ℕ} (k : ℕ) → s.top < 64 → PutAmong rank v s.top n k x w → NodesAdded rank v s (x ∷ []) w (topped s (s.top + 1))
  entered_put {n} {w} k l p =
      record {
        outside = p.outside;
        walk = refl;
        kept = λ y j.
            ⊎_elim
            (λ (o : Memᴰ y (pending_in v s.top)). old y o)
            (λ (o : Memᴰ y (x ∷ [])).
            subst (λ (z : NodeBeside). Memᴰ z (pending_in w (s.top + 1))) (p.here ∙ sym (Memᴰ.eq_of_singleton o))
            (mem_tabulate (pending_one w) (s.top + 1) k (omega (arith, p.place))))
            (Memᴰ.append_cases (pending_in v s.top) j);
        only = λ y j.
            let i = tabulate_mem (pending_one w) (s.top + 1) j in
            new y i.0 i.1 i.2 (ltb i.0 k) refl (eqb i.0 k) refl;
        light = omega (arith, put_weight rank (pending_one v) (pending_one w) k x p.below p.here s.top p.place (λ i h u. (p.above i h u).0), weight_next rank [] x, weight_none rank);
      }
    where
      old : (y : NodeBeside) → Memᴰ y (pending_in v s.top) → Memᴰ y (pending_in w (s.top + 1))
      old y o =
          let i = tabulate_mem (pending_one v) s.top o in
          go i.0 i.1 i.2 (ltb i.0 k) refl
        where
          go : (i : ℕ) → i < s.top → y ≡ pending_one v i → (b : Bool) → ltb i k ≡ b → Memᴰ y (pending_in w (s.top + 1))
          go i h e true t =
              subst (λ (z : NodeBeside). Memᴰ z (pending_in w (s.top + 1))) (p.below i (ltb-true i k t) ∙ sym e)
              (mem_tabulate (pending_one w) (s.top + 1) i (omega arith))
          go i h e false t =
              subst (λ (z : NodeBeside). Memᴰ z (pending_in w (s.top + 1))) ((p.above i (ltb-false i k t) h).0 ∙ sym e)
              (mem_tabulate (pending_one w) (s.top + 1) (i + 1) (omega arith))

      new : (y : NodeBeside) (i : ℕ) → i < s.top + 1 → y ≡ pending_one w i → (b : Bool) → ltb i k ≡ b → (c : Bool) → eqb i k ≡ c
          → Memᴰ y (pending_in v s.top ++ (x ∷ []))
      new y i h e true t c u =
          let o : i < s.top = omega (arith, ltb-true i k t, p.place) in
          Memᴰ.append_left (x ∷ []) (subst (λ (z : NodeBeside). Memᴰ z (pending_in v s.top)) (sym (e ∙ p.below i (ltb-true i k t)))
          (mem_tabulate (pending_one v) s.top i o))
      new y i h e false t true u =
          Memᴰ.append_right (pending_in v s.top) (Memᴰ.head (e ∙ ap (pending_one w) (eqb-true i k u) ∙ p.here))
      new y i h e false t false u =
          let o : (i - 1 < s.top) × (k ≤ i - 1) × (i - 1 + 1 ≡ i) =
          (omega (arith, ltb-false i k t, eqb-false i k u), omega (arith, ltb-false i k t, eqb-false i k u), omega (arith, ltb-false i k t, eqb-false i k u)) in
          Memᴰ.append_left (x ∷ [])
          (subst (λ (z : NodeBeside). Memᴰ z (pending_in v s.top))
          (sym (e ∙ ap (pending_one w) (sym o.2) ∙ (p.above (i - 1) o.1 o.0).0))
          (mem_tabulate (pending_one v) s.top (i - 1) o.0))

pub entered_added : {rank : ℕ → ℕ} {v w : List ℕ} {s : Walk} {n next : ℕ} {x : NodeBeside} → s.top < 64 → Entered rank v s.top n x w next
    → NodesAdded rank v s (x ∷ []) w (topped s next)
entered_added l (there i h e a) = entered_there i h e
entered_added l (put k p) = entered_put k l p

-- there is at most one more, and all have numbers that stand for nodes
pub entered_few : {rank : ℕ → ℕ} {v w : List ℕ} {top n next : ℕ} {x : NodeBeside} → Entered rank v top n x w next → next ≤ top + 1
entered_few (there i h e a) = omega arith
entered_few (put k p) = omega arith

pub entered_long : {rank : ℕ → ℕ} {v w : List ℕ} {top n next : ℕ} {x : NodeBeside} → Entered rank v top n x w next → length w ≡ length v
entered_long (there i h e a) = refl
entered_long (put k p) = p.outside.long

pub entered_packed : {rank : ℕ → ℕ} {v w : List ℕ} {top n next : ℕ} {x : NodeBeside} → ((i : ℕ) → i < top → PendingPacked v i)
    → Entered rank v top n x w next → (i : ℕ) → i < next → PendingPacked w i
entered_packed f (there k h e a) i l = f i l
entered_packed f (put k p) i l = p.packed i (omega arith)

-- some nodes and then others
pub added_again : {rank : ℕ → ℕ} {u v w : List ℕ} {s r t : Walk} {one two : List NodeBeside} → NodesAdded rank u s one v r → NodesAdded rank v r two w t
    → NodesAdded rank u s (one ++ two) w t
added_again {rank} {u} {v} {w} {s} {r} {t} {one} {two} a b =
    record {
      outside = outside_again a.outside b.outside;
      walk = b.walk ∙ ap (λ (x : Walk). topped x t.top) a.walk;
      kept = λ e i.
          b.kept e
          (⊎_elim (λ (o : Memᴰ e (pending_in u s.top ++ one)). Memᴰ.append_left two (a.kept e o))
          (λ (o : Memᴰ e two). Memᴰ.append_right (pending_in v r.top) o)
          (Memᴰ.append_cases (pending_in u s.top ++ one) (subst (Memᴰ e) (sym (append_assoc (pending_in u s.top) one two)) i)));
      only = λ e i.
          subst (Memᴰ e) (append_assoc (pending_in u s.top) one two)
          (⊎_elim (λ (o : Memᴰ e (pending_in v r.top)). Memᴰ.append_left two (a.only e o))
          (λ (o : Memᴰ e two). Memᴰ.append_right (pending_in u s.top ++ one) o)
          (Memᴰ.append_cases (pending_in v r.top) (b.only e i)));
      light = omega (arith, a.light, b.light, weight_append rank one two);
    }

-- ---- all stays in order
module _ {rank : ℕ → ℕ} {b : Basis} {v w : List ℕ} {s : Walk} (k : Walking rank v b s) (same : SameOutside pending_at pending_end v w) where
  moves_below : moves_at + s.running.moves ≤ pending_at
  moves_below = omega (arith, k.collecting.room.2, k.collecting.caps.1)

  pub stored_members : members_of w s.running ≡ members_of v s.running
  stored_members = members_outside same (inl (omega arith)) s.running.members

  pub stored_moves : moves_of w b.first s.running ≡ moves_of v b.first s.running
  stored_moves = moves_outside same (inl (omega arith)) b.first s.running (inl moves_below)

  pub stored_marks : part_at w marks_at ≡ part_at v marks_at
  stored_marks = part_outside same marks_at (inl (omega arith))

  pub stored_grown : Grown v b.first s.running w s.running
  stored_grown =
      grown_outside same (inl (omega arith)) b.first s.running (inl moves_below) (omega (arith, moves_below, k.collecting.room.1))
      (omega arith)

  same_table : (i : ℕ) → i < set_room → get_or w i 0 ≡ get_or v i 0
  same_table i l = same.at i (inl (omega arith))

  same_shelf : SameShelf v w
  same_shelf = record { long = same.long; table = same_table; shelf = λ i l u. same.at i (inr l) }

  -- with nodes to visit that fit
  pub stored_walking : (n : ℕ) → n ≤ 64 → ((i : ℕ) → i < n → Entry rank w b i) → Walking rank w b (topped s n)
  stored_walking n l entries =
      record {
        collecting = collecting_outside same (inl (omega arith)) b.first s.running (inl moves_below) k.collecting;
        fit = λ x m. k.fit x (subst (Memᴰ x) stored_members m);
        small = λ x m. k.small x (subst (Memᴰ x) stored_moves m);
        marks = kept_outside same marks_at s.marks (inl (omega arith)) k.marks;
        shelf_room = room_agree k.shelf_room same.long same_table;
        shelved = shelved_agree v w b.facts b.store k.shelf_room.few same_shelf s.shelf k.shelved;
        top = l;
        entries = entries;
      }

-- an entry is what its three numbers say
entry_same : {rank : ℕ → ℕ} {b : Basis} {v w : List ℕ} (i : ℕ) → pending_one w i ≡ pending_one v i → PendingPacked w i → Entry rank v b i → Entry rank w b i
entry_same {rank} {b} {v} {w} i e p h =
    record {
      packed = p;
      fits = subst (VisitFits b) (sym e) h.fits;
      height = subst (λ (x : NodeBeside). rank x.node + i < 64) (sym e) h.height;
    }

-- one node more that fits and has a rank that is low enough
pub pushed_walking : {rank : ℕ → ℕ} {b : Basis} {v w : List ℕ} {s : Walk} {e : NodeBeside} → Walking rank v b s → Pushed v s.top e w → VisitFits b e
    → rank e.node + s.top < 64 → Walking rank w b (topped s (s.top + 1))
pushed_walking {rank} {b} {v} {w} {s} {e} k p fit low =
    stored_walking k (outside_wider p.outside pending_at pending_end (omega arith) (omega arith)) (s.top + 1) (omega arith)
    (λ i l. go i l (eqb i s.top) refl)
  where
    below : (i : ℕ) → i < s.top → pending_one w i ≡ pending_one v i
    below i l =
        sym (tabulate_at (pending_one w) s.top i e l) ∙ ap (λ (es : List NodeBeside). get_or es i e) (pushed_below p)
        ∙ tabulate_at (pending_one v) s.top i e l

    go : (i : ℕ) → i < s.top + 1 → (t : Bool) → eqb i s.top ≡ t → Entry rank w b i
    go i l true q =
        let r : i ≡ s.top = eqb-true i s.top q in
        subst (Entry rank w b) (sym r) (record {
          packed = p.packed;
          fits = subst (VisitFits b) (sym p.stored) fit;
          height = subst (λ (x : NodeBeside). rank x.node + s.top < 64) (sym p.stored) low;
        })
    go i l false q =
        let r : i < s.top = omega (arith, eqb-false i s.top q) in
        let h = k.entries i r in
        entry_same i (below i r) (pushed_packed p i r h.packed) h

-- a node that fits is among those to visit, the ones above it have ranks below n, and there is room above n
pub entered_walking : {rank : ℕ → ℕ} {b : Basis} {v w : List ℕ} {s : Walk} {n next : ℕ} {x : NodeBeside} → Walking rank v b s → VisitFits b x → rank x.node < n
    → n + s.top ≤ 64 → Entered rank v s.top n x w next → Walking rank w b (topped s next)
entered_walking k fit low room (there i h e a) = k
entered_walking {rank} {b} {v} {w} {s} {n} {next} {x} kw fit low room (put k p) =
    stored_walking kw p.outside (s.top + 1) (omega arith) (λ i l. go i l (ltb i k) refl (eqb i k) refl)
  where
    go : (i : ℕ) → i < s.top + 1 → (t : Bool) → ltb i k ≡ t → (u : Bool) → eqb i k ≡ u → Entry rank w b i
    go i l true t u q =
        let h : i < k = ltb-true i k t in
        let o : i < s.top = omega (arith, p.place) in
        entry_same i (p.below i h) (p.packed i (omega arith)) (kw.entries i o)
    go i l false t true q =
        let r : i ≡ k = eqb-true i k q in
        let h = p.place in
        subst (Entry rank w b) (sym r) (record {
          packed = p.packed k p.place;
          fits = subst (VisitFits b) (sym p.here) fit;
          height = subst (λ (y : NodeBeside). rank y.node + k < 64) (sym p.here) (omega arith);
        })
    go i l false t false q =
        let a : k ≤ i - 1 = omega (arith, ltb-false i k t, eqb-false i k q) in
        let c : i - 1 < s.top = omega (arith, ltb-false i k t, eqb-false i k q) in
        let d : i - 1 + 1 ≡ i = omega (arith, ltb-false i k t, eqb-false i k q) in
        let up = p.above (i - 1) a c in
        let same : pending_one w i ≡ pending_one v (i - 1) = ap (pending_one w) (sym d) ∙ up.0 in
        let h = up.1.low in
        record {
          packed = p.packed i (omega arith);
          fits = subst (VisitFits b) (sym same) (kw.entries (i - 1) c).fits;
          height = subst (λ (y : NodeBeside). rank y.node + i < 64) (sym same) (omega arith);
        }

-- ---- nodes in the place of one
-- the moves that any of the nodes give
abbrev pub GivenBy : Sheet → ℕ → List NodeBeside → Move → Type 0
GivenBy sheet d es m = (e : NodeBeside) × Memᴰ e es × Memᴰ m (placed_moves sheet d e)

-- two lists of nodes give the same moves
pub record GiveSame (sheet : Sheet) (d : ℕ) (es fs : List NodeBeside) : Type 0 where
  pub onward : (m : Move) → GivenBy sheet d es m → GivenBy sheet d fs m
  pub back : (m : Move) → GivenBy sheet d fs m → GivenBy sheet d es m

module _ (sheet : Sheet) (d : ℕ) where
  -- a move of some nodes and others
  pub given_left : {es : List NodeBeside} (fs : List NodeBeside) {m : Move} → GivenBy sheet d es m → GivenBy sheet d (es ++ fs) m
  given_left fs x = (x.0, Memᴰ.append_left fs x.1, x.2)

  pub given_right : (es : List NodeBeside) {fs : List NodeBeside} {m : Move} → GivenBy sheet d fs m → GivenBy sheet d (es ++ fs) m
  given_right es x = (x.0, Memᴰ.append_right es x.1, x.2)

  pub given_cases : (es : List NodeBeside) {fs : List NodeBeside} {m : Move} → GivenBy sheet d (es ++ fs) m
      → GivenBy sheet d es m ⊎ GivenBy sheet d fs m
  given_cases es {fs} {m} x =
      ⊎_elim (λ (i : Memᴰ x.0 es). inl (x.0, i, x.2)) (λ (i : Memᴰ x.0 fs). inr (x.0, i, x.2))
      (Memᴰ.append_cases es x.1)

  -- of one node
  pub given_one : (e : NodeBeside) {m : Move} → Memᴰ m (placed_moves sheet d e) → GivenBy sheet d (e ∷ []) m
  given_one e x = (e, Memᴰ.head refl, x)

  pub given_of_one : {e : NodeBeside} {m : Move} → GivenBy sheet d (e ∷ []) m → Memᴰ m (placed_moves sheet d e)
  given_of_one {e} {m} x =
      subst (λ (z : NodeBeside). Memᴰ m (placed_moves sheet d z)) (Memᴰ.eq_of_singleton x.1) x.2

  pub give_same_refl : (es : List NodeBeside) → GiveSame sheet d es es
  give_same_refl es = record { onward = λ m x. x; back = λ m x. x }

  -- where a node gives the moves of two parts, nodes that give those of the one with nodes that give those of the other
  pub parts_give : (e p q : NodeBeside) {one two : List NodeBeside}
      → placed_moves sheet d e ≡ placed_moves sheet d p ++ placed_moves sheet d q
      → GiveSame sheet d (p ∷ []) one → GiveSame sheet d (q ∷ []) two → GiveSame sheet d (e ∷ []) (one ++ two)
  parts_give e p q {one} {two} same f g =
      record {
        onward = λ m x.
            ⊎_elim
            (λ (i : Memᴰ m (placed_moves sheet d p)). given_left two (f.onward m (given_one p i)))
            (λ (i : Memᴰ m (placed_moves sheet d q)). given_right one (g.onward m (given_one q i)))
            (Memᴰ.append_cases (placed_moves sheet d p) (subst (Memᴰ m) same (given_of_one x)));
        back = λ m x.
            given_one e (subst (Memᴰ m) (sym same)
            (⊎_elim
            (λ (y : GivenBy sheet d one m). Memᴰ.append_left (placed_moves sheet d q) (given_of_one (f.back m y)))
            (λ (y : GivenBy sheet d two m). Memᴰ.append_right (placed_moves sheet d p) (given_of_one (g.back m y)))
            (given_cases one x)));
      }

module _ {rank : ℕ → ℕ} {b : Basis} {v w : List ℕ} {s t : Walk} {more : List NodeBeside} (k : Walking rank v b s) (a : NodesAdded rank v s more w t) where
  added_running : t.running ≡ s.running
  added_running = ap (λ (x : Walk). x.running) a.walk

  -- members and moves stay
  pub added_grown : Grown v b.first s.running w t.running
  added_grown = subst (Grown v b.first s.running w) (sym added_running) (stored_grown k a.outside)

  added_moves : moves_of w b.first t.running ≡ moves_of v b.first s.running
  added_moves = rw added_running (stored_moves k a.outside)

  module _ {extra : List NodeBeside} (g : Growth) (h : InHand g) (same : GiveSame g.sheet b.store extra more)
      (lower : (x y : NodeBeside) → Memᴰ x more → Memᴰ y extra → rank x.node < rank y.node) where
    added_old : (m : Move) → GivenBy g.sheet b.store (pending_in v s.top) m → GivenBy g.sheet b.store (pending_in w t.top) m
    added_old m y = (y.0, a.kept y.0 (Memᴰ.append_left more y.1), y.2)

    added_more : (m : Move) → GivenBy g.sheet b.store more m → GivenBy g.sheet b.store (pending_in w t.top) m
    added_more m y = (y.0, a.kept y.0 (Memᴰ.append_right (pending_in v s.top) y.1), y.2)

    -- what was in reach is in reach
    added_reach : (m : Move) → InReach g b v s extra m → InReach g b w t [] m
    added_reach m (inl i) = inl (subst (Memᴰ m) (sym added_moves) i)
    added_reach m (inr x) =
        inr (⊎_elim
        (λ (y : GivenBy g.sheet b.store extra m). added_more m (same.onward m y))
        (λ (y : GivenBy g.sheet b.store (pending_in v s.top) m). added_old m y)
        (given_cases g.sheet b.store extra x))

    added_below_lem : (i : ℕ) (m : Move) → InReachBelow rank g b v s extra i m → InReachBelow rank g b w t [] i m
    added_below_lem i m (inl k) = inl (subst (Memᴰ m) (sym added_moves) k)
    added_below_lem i m (inr (inl x)) =
        let y = same.onward m (x.0, x.1, x.3) in
        inr (inr (
          y.0,
          a.kept y.0 (Memᴰ.append_right (pending_in v s.top) y.1),
          omega (arith, lower y.0 x.0 y.1 x.1, x.2),
          y.2,
        ))
    added_below_lem i m (inr (inr x)) = inr (inr (x.0, a.kept x.0 (Memᴰ.append_left more x.1), x.2, x.3))

    -- what nodes to visit give, those that were there or the extra ones gave
    added_given : (m : Move) → GivenBy g.sheet b.store (pending_in w t.top) m
        → GivenBy g.sheet b.store (extra ++ pending_in v s.top) m
    added_given m x =
        ⊎_elim
        (λ (y : GivenBy g.sheet b.store (pending_in v s.top) m). given_right g.sheet b.store extra y)
        (λ (y : GivenBy g.sheet b.store more m). given_left g.sheet b.store (pending_in v s.top) (same.back m y))
        (given_cases g.sheet b.store (pending_in v s.top) (x.0, a.only x.0 x.1, x.2))

    pub added_carried : Covering rank g h b v s extra → Carried rank g h b v s extra w t
    added_carried c =
        record {
          covering = record {
            gathered =
                gathered_same
                (ap (members_of w) added_running ∙ stored_members k a.outside) added_moves c.gathered;
            visited = λ e i m j. added_below_lem (rank e.node) m (c.visited e (subst (Memᴰ e) marks_same i) m j);
            given = λ e i m j. let x = added_given m (e, i, j) in c.given x.0 x.1 m x.2;
          };
          carries = added_reach;
        }
      where
        marks_same : marks_of w t.marks ≡ marks_of v s.marks
        marks_same =
            ap (λ (x : Walk). marks_of w x.marks) a.walk
            ∙ ap (λ (l : List ℕ). map placed (members_in l s.marks)) (stored_marks k a.outside)

  -- a turn of the walk that stores nodes which give the moves of the extra ones, have lower ranks, and weigh less
  pub added_turn : {extra : List NodeBeside} (nodes : List Node) → Walking rank w b t → weight rank more < weight rank extra
      → ((x y : NodeBeside) → Memᴰ x more → Memᴰ y extra → rank x.node < rank y.node)
      → ((sheet : Sheet) → sheet.nodes ≡ nodes → GiveSame sheet b.store extra more) → TurnOn rank nodes b v s extra w t
  added_turn {extra} nodes l light lower same =
      record {
        walking = l;
        grown = added_grown;
        lighter =
            omega (arith, a.light, weight_append rank extra (pending_in v s.top));
        carried = λ g h o c. added_carried g h (same g.sheet o.nodes_are) lower c;
      }
