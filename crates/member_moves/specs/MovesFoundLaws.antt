-- Why the walks of a member's threads find its moves: what a thread gives beside the others are moves of the member, an equal
-- thread gives the same, and every move of the member is given by a thread.
use Rattle.std.specs.Prelude.{◌≡◌, refl, Bool, true, false, ℕ, ◌+◌, ◌-◌, ◌≤◌, ◌<◌, length, get_or, eqb}
use Rattle.std.proofs.Common.{sym, ap, ◌∙◌, subst, inl, inr, arith, get_or-take, eqb-true}
use mathlib.Core.List.Memᴰ
use mathlib.Core.List.{List, [], ◌∷◌, ◌++◌, map, Memᴰ}
use Rattle.std.proofs.lemmas.Bool.{eqb-false}
use Rattle.nodes_to_visit.specs.Frames.{SameOutside, outside_wider, outside_again}
use Rattle.nodes_to_visit.specs.ListPlaces.{get_d_in}
use Rattle.sheet_types.specs.Tabulate.{tabulate_none}
use Rattle.sheet_types.specs.Sheet.{Node, Configuration}
use Rattle.nodes_to_visit.specs.Orders.{Move}
use Rattle.nodes_to_visit.specs.Moves.{moves}
use Rattle.threads_beside.specs.NodeMoves.{NodeBeside, placed_moves}
use Rattle.threads_beside.specs.NodeMoveLaws.{move_by_thread}
use Rattle.threads_beside.specs.ThreadLaws.{rest_without, rest_without_same, rest_without_ascends, rest_without_length, rest_without_only}
use Rattle.sheet_types.specs.declared.Configuration as held
use Rattle.sheet_types.specs.HeldSheet.{configuration}
use Rattle.node_walk.specs.MemberTable.{member_in, members_in, part_at}
use Rattle.walk_state.specs.CollectedMoves.{Grown, moves_of}
use Rattle.walk_state.specs.CollectedLaws.{grown_refl, grown_trans}
use Rattle.walk_state.specs.SetGrowth.{Growth, InHand, Gathered}
use Rattle.walk_state.specs.SetGrowthLaws.{gathered_same}
use Rattle.threads_beside.specs.ThreadsBeside.{placed, thread_at}
use Rattle.nodes_to_visit.specs.NodesToVisit.{pending_one, pending_in, Pushed}
use Rattle.nodes_to_visit.specs.NodesToVisitLaws.{pushed_all}
use Rattle.walk_state.specs.declared.Basis.{Basis}
use Rattle.walk_state.specs.declared.Walk.{Walk}
use Rattle.std.specs.Prelude.{Option, Some, None}
use Rattle.walk_state.specs.WalkState.{NodesOf, MemberFits, VisitFits, marks_of, Walking, InReachBelow, Covering, OnSheet, TurnOver}
use Rattle.walk_state.specs.NotedInWalk.{grown_sheet}
use Rattle.walk_state.specs.PushedInWalk.{topped, pushed_walking, stored_members, stored_moves, stored_marks, stored_grown}
use Rattle.node_walk.specs.NodeVisits.{WalkedOn, WalkedAs}
use Rattle.member_moves.specs.MovesFound.{FoundOn, FoundOver, FoundBelow, NextOn, NextOver, NextFound}
use Rattle.nodes_to_visit.specs.WorkLayout.{marks_at, pending_at, pending_end}
use Rattle.sheet_types.specs.SheetLimits.{max_nodes}

-- ---- threads of the member
module _ {b : Basis} {e : Configuration} (fit : MemberFits b e) (i : ℕ) (l : i < length e.threads) where
  -- a thread is a node of the sheet
  pub thread_node : get_or e.threads i 0 < b.nodes
  thread_node = fit.threads.nodes (get_or e.threads i 0) (get_d_in e.threads i 0 l)

  -- with the others beside it it fits
  pub thread_fits : VisitFits b (thread_at e i)
  thread_fits = record {
    node = thread_node;
    threads = record {
      few = omega (arith, rest_without_length e.threads i l, fit.threads.few);
      ascending = rest_without_ascends e.threads i fit.threads.ascending;
      nodes = λ t m. fit.threads.nodes t (rest_without_only e.threads i m);
    };
  }

-- what it gives are moves of the member
thread_moves : (g : Growth) (h : InHand g) (b : Basis) (e : Configuration) → h.member ≡ e → b.store ≡ e.store → (i : ℕ)
    → i < length e.threads → (m : Move) → Memᴰ m (placed_moves g.sheet b.store (thread_at e i)) → Memᴰ m (moves g.sheet h.member)
thread_moves g h b e is same i l m j =
    subst (λ (x : Configuration). Memᴰ m (moves g.sheet x)) (ap (λ (d : ℕ). record { store = d; threads = e.threads }) same ∙ sym is)
    ((move_by_thread g.sheet b.store e.threads m).1 (i, l, j))

-- every move of the member is given by a thread
moves_thread : (g : Growth) (h : InHand g) (b : Basis) (e : Configuration) → h.member ≡ e → b.store ≡ e.store → (m : Move)
    → Memᴰ m (moves g.sheet h.member)
    → (i : ℕ) × (i < length e.threads) × Memᴰ m (placed_moves g.sheet b.store (thread_at e i))
moves_thread g h b e is same m j =
    (move_by_thread g.sheet b.store e.threads m).0
    (subst (λ (x : Configuration). Memᴰ m (moves g.sheet x))
    (is ∙ ap (λ (d : ℕ). record { store = d; threads = e.threads }) (sym same)) j)

-- ---- an equal thread before it
same_thread : (e : Configuration) (i : ℕ) → 0 < i → i < length e.threads → get_or e.threads (i - 1) 0 ≡ get_or e.threads i 0
    → thread_at e (i - 1) ≡ thread_at e i
same_thread e i p l q =
    let n : i - 1 + 1 ≡ i = omega arith in
    let t : get_or e.threads (i - 1) 0 ≡ get_or e.threads (i - 1 + 1) 0 = q ∙ ap (λ (j : ℕ). get_or e.threads j 0) (sym n) in
    ap (λ (x : ℕ). record { node = x; threads = rest_without e.threads (i - 1) }) q
    ∙ ap (λ (ts : List ℕ). record { node = get_or e.threads i 0; threads = ts })
    (rest_without_same e.threads (i - 1) (omega arith) t ∙ ap (rest_without e.threads) n)

pub same_next : {rank : ℕ → ℕ} (nodes : List Node) {b : Basis} {v : List ℕ} {s : Walk} (e : Configuration) (i : ℕ) → Walking rank v b s → s.top ≡ 0 → 0 < i
    → i < length e.threads → get_or e.threads (i - 1) 0 ≡ get_or e.threads i 0 → NextOn rank nodes b v s e i v s
same_next {rank} nodes {b} {v} {s} e i k z p l q =
    record {
      walking = k;
      none_left = z;
      grown = grown_refl v b.first s.running;
      next = λ g h o is f.
          record { covering = f.covering; found = λ j u m x. go g h f j u m x (eqb j i) refl };
    }
  where
    go : (g : Growth) (h : InHand g) → FoundBelow rank g h b e i v s → (j : ℕ) → j < i + 1 → (m : Move)
        → Memᴰ m (placed_moves g.sheet b.store (thread_at e j)) → (t : Bool) → eqb j i ≡ t
        → Memᴰ m (moves_of v b.first s.running)
    go g h f j u m x true t =
        let r : j ≡ i = eqb-true j i t in
        f.found (i - 1) (omega arith) m
        (subst (λ (y : NodeBeside). Memᴰ m (placed_moves g.sheet b.store y)) (ap (thread_at e) r ∙ sym (same_thread e i p l q)) x)
    go g h f j u m x false t = f.found j (omega (arith, eqb-false j i t)) m x

-- ---- a thread stored and walked
module _ {rank : ℕ → ℕ} (nodes : List Node) {b : Basis} {v : List ℕ} {s : Walk} (of : NodesOf rank b nodes) (e : Configuration) (i : ℕ) (k : Walking rank v b s) (z : s.top ≡ 0)
    (nodes_few : b.nodes ≤ max_nodes) (fit : MemberFits b e) (same : b.store ≡ e.store) (l : i < length e.threads) {u : List ℕ}
    (p : Pushed v 0 (thread_at e i) u) where
  abbrev x : NodeBeside
  x = thread_at e i

  pushed : Pushed v s.top x u
  pushed = subst (λ (n : ℕ). Pushed v n x u) (sym z) p

  one : s.top + 1 ≡ 1
  one = omega arith

  stored : SameOutside pending_at pending_end v u
  stored = outside_wider p.outside pending_at pending_end (omega arith) (omega arith)

  pub stored_thread : Walking rank u b (topped s 1)
  stored_thread =
      subst (λ (n : ℕ). Walking rank u b (topped s n)) one
      (pushed_walking k pushed (thread_fits fit i l) (omega (arith, of.ranked.small x.node (omega (arith, thread_node fit i l, of.count)), of.count)))

  only : pending_in u 1 ≡ x ∷ []
  only = subst (λ (n : ℕ). pending_in u n ≡ x ∷ []) one (pushed_all pushed ∙ ap (λ (es : List NodeBeside). es ++ (x ∷ [])) none)
    where
      none : pending_in v s.top ≡ []
      none = ap (pending_in v) z ∙ tabulate_none (pending_one v)

  none_there : {y : NodeBeside} → Memᴰ y (pending_in v s.top) → ⊥
  none_there {y} m = Memᴰ.not-nil (subst (Memᴰ y) (ap (pending_in v) z ∙ tabulate_none (pending_one v)) m)

  stored_covering : (g : Growth) (h : InHand g) → h.member ≡ e → Covering rank g h b v s [] → Covering rank g h b u (topped s 1) []
  stored_covering g h is c =
      record {
        gathered = gathered_same (stored_members k stored) (stored_moves k stored) c.gathered;
        visited = λ y j m o.
            below (rank y.node) m (c.visited y (subst (λ (w : List ℕ). Memᴰ y (map placed (members_in w s.marks))) (stored_marks k stored) j) m o);
        given = λ y j m o.
            thread_moves g h b e is same i l m
            (subst (λ (q : NodeBeside). Memᴰ m (placed_moves g.sheet b.store q))
            (Memᴰ.eq_of_singleton (subst (Memᴰ y) only j)) o);
      }
    where
      below : (n : ℕ) (m : Move) → InReachBelow rank g b v s [] n m → InReachBelow rank g b u (topped s 1) [] n m
      below n m (inl j) = inl (subst (Memᴰ m) (sym (stored_moves k stored)) j)
      below n m (inr (inl y)) = absurd (Memᴰ.not-nil y.1)
      below n m (inr (inr y)) = absurd (none_there y.1)

  stored_sheet : {g : Growth} → OnSheet g nodes b v → OnSheet g nodes b u
  stored_sheet o = grown_sheet k (stored_grown k stored).outside o

  walked_on : {w : List ℕ} {t : Walk} → WalkedOn rank nodes b u (topped s 1) w t → NextOn rank nodes b v s e i w t
  walked_on {w} {t} a =
      record {
        walking = a.walking;
        none_left = a.none_left;
        grown = all;
        next = λ g h o is f.
            record {
              covering = a.covering g h (stored_sheet o) (stored_covering g h is f.covering);
              found = λ j c m y. go g h o is f j c m y (eqb j i) refl;
            };
      }
    where
      all : Grown v b.first s.running w t.running
      all = grown_trans v u w b.first s.running s.running t.running (stored_grown k stored) a.grown

      go : (g : Growth) (h : InHand g) → OnSheet g nodes b v → h.member ≡ e → FoundBelow rank g h b e i v s → (j : ℕ) → j < i + 1 → (m : Move)
          → Memᴰ m (placed_moves g.sheet b.store (thread_at e j)) → (c : Bool) → eqb j i ≡ c
          → Memᴰ m (moves_of w b.first t.running)
      go g h o is f j c m y true q =
          let r : j ≡ i = eqb-true j i q in
          a.collected g h (stored_sheet o) (stored_covering g h is f.covering) m
          (inr (
            x,
            subst (Memᴰ x) (sym only) (Memᴰ.head refl),
            subst (λ (n : ℕ). Memᴰ m (placed_moves g.sheet b.store (thread_at e n))) r y,
          ))
      go g h o is f j c m y false q = all.moves_keep m (f.found j (omega (arith, eqb-false j i q)) m y)

  walked_over : {w : List ℕ} → TurnOver rank nodes b u (topped s 1) [] w → NextOver rank nodes b v s e i w
  walked_over a =
      record {
        passes = λ g h o is f. a.passes g h (stored_sheet o) (stored_covering g h is f.covering);
        outside = outside_again (stored_grown k stored).outside a.outside;
      }

  pub walked_next : (w : List ℕ) (r : Option Walk) → WalkedAs rank nodes b u (topped s 1) w r → NextFound rank nodes b v s e i w r
  walked_next w (Some t) a = walked_on a
  walked_next w None a = walked_over a

-- ---- threads as they are held
module _ (e : held.Configuration) (i : ℕ) (l : i < e.count) where
  -- a thread at one of the places counted
  pub counted_thread : get_or (configuration e).threads i 0 ≡ get_or e.threads i 0
  counted_thread = get_or-take e.count e.threads i 0 l

  -- equal neighbours
  pub counted_same : get_or e.threads (i - 1) 0 ≡ get_or e.threads i 0
      → get_or (configuration e).threads (i - 1) 0 ≡ get_or (configuration e).threads i 0
  counted_same q = get_or-take e.count e.threads (i - 1) 0 (omega arith) ∙ q ∙ sym counted_thread

-- the thread stored with the rest beside it
pub pushed_thread : {v u : List ℕ} {x y : NodeBeside} → x ≡ y → Pushed v 0 x u → Pushed v 0 y u
pushed_thread {v} {u} q p = subst (λ (z : NodeBeside). Pushed v 0 z u) q p

-- ---- thread after thread
pub record SoFar (rank : ℕ → ℕ) (nodes : List Node) (b : Basis) (v : List ℕ) (s : Walk) (e : Configuration) (i : ℕ) (w : List ℕ) (t : Walk) : Type 0 where
  pub walking : Walking rank w b t
  pub none_left : t.top ≡ 0
  pub grown : Grown v b.first s.running w t.running
  pub found : (g : Growth) (h : InHand g) → OnSheet g nodes b v → h.member ≡ e → Gathered g h v b.first s.running
      → FoundBelow rank g h b e i w t

-- no thread yet, no mark and no node to visit
pub so_far_none : {rank : ℕ → ℕ} (nodes : List Node) {b : Basis} {v : List ℕ} {s : Walk} (e : Configuration) → Walking rank v b s → s.top ≡ 0 → s.marks ≡ 0
    → SoFar rank nodes b v s e 0 v s
so_far_none {rank} nodes {b} {v} {s} e k z y =
    record {
      walking = k;
      none_left = z;
      grown = grown_refl v b.first s.running;
      found = λ g h o is c.
          record {
            covering = record {
              gathered = c;
              visited = λ x i m j. absurd (unmarked i);
              given = λ x i m j. absurd (nothing i);
            };
            found = λ j l m x. absurd (omega arith);
          };
    }
  where
    unmarked : {x : NodeBeside} → Memᴰ x (marks_of v s.marks) → ⊥
    unmarked {x} i =
        Memᴰ.not-nil (subst (Memᴰ x) (ap (marks_of v) y ∙ ap (map placed) (tabulate_none (member_in (part_at v marks_at)))) i)

    nothing : {x : NodeBeside} → Memᴰ x (pending_in v s.top) → ⊥
    nothing {x} i = Memᴰ.not-nil (subst (Memᴰ x) (ap (pending_in v) z ∙ tabulate_none (pending_one v)) i)

module _ {rank : ℕ → ℕ} {nodes : List Node} {b : Basis} {v : List ℕ} {s : Walk} {e : Configuration} {i : ℕ} {u : List ℕ} {r : Walk} (k : Walking rank v b s)
    (a : SoFar rank nodes b v s e i u r) where
  pub so_far_next : {w : List ℕ} {t : Walk} → NextOn rank nodes b u r e i w t → SoFar rank nodes b v s e (i + 1) w t
  so_far_next {w} {t} x =
      record {
        walking = x.walking;
        none_left = x.none_left;
        grown = grown_trans v u w b.first s.running r.running t.running a.grown x.grown;
        found = λ g h o is c. x.next g h (grown_sheet k a.grown.outside o) is (a.found g h o is c);
      }

  pub so_far_over : {w : List ℕ} → NextOver rank nodes b u r e i w → FoundOver nodes b v s e w
  so_far_over x =
      record {
        passes = λ g h o is c. x.passes g h (grown_sheet k a.grown.outside o) is (a.found g h o is c);
        outside = outside_again a.grown.outside x.outside;
      }

  -- all threads
  pub so_far_all : b.store ≡ e.store → length e.threads ≤ i → FoundOn rank nodes b v s e u r
  so_far_all same l =
      record {
        walking = a.walking;
        none_left = a.none_left;
        grown = a.grown;
        collected = λ g h o is c.
            let f = a.found g h o is c in
            record {
              gathered = f.covering.gathered;
              whole = λ m j. let y = moves_thread g h b e is same m j in f.found y.0 (omega (arith, y.1)) m y.2;
            };
      }

-- ---- the answer taken apart
module _ {rank : ℕ → ℕ} {nodes : List Node} {b : Basis} {v : List ℕ} {s : Walk} {e : Configuration} {i : ℕ} {w : List ℕ} {r : Option Walk} where
  pub next_on : {t : Walk} → r ≡ Some t → NextFound rank nodes b v s e i w r → NextOn rank nodes b v s e i w t
  next_on q h = subst (NextFound rank nodes b v s e i w) q h

  pub next_over : r ≡ None → NextFound rank nodes b v s e i w r → NextOver rank nodes b v s e i w
  next_over q h = subst (NextFound rank nodes b v s e i w) q h
