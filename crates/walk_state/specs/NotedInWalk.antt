-- Moves noted one after another while a walk is under way: all stays in order, and where they are the moves of a node that was
-- taken out, nothing in reach is lost and less is left to do. A shelf that has other labels changes nothing in reach.
use Rattle.std.specs.Prelude.{◌≡◌, refl, ◌⊎◌, ℕ, ◌+◌, ◌^◌, ◌≤◌, ◌<◌, get_or}
use Rattle.std.proofs.Common.{sym, ap, ◌∙◌, subst, inl, inr, ⊎_elim, arith}
use mathlib.Core.List.Memᴰ
use mathlib.Core.List.{List, [], ◌∷◌, ◌++◌, map, Memᴰ}
use Rattle.std.proofs.Math.Nat.{pow-le-pow_right}
use Rattle.nodes_to_visit.specs.Frames.{SameOutside, outside_same, outside_wider, outside_then, outside_again}
use Rattle.collected_moves.specs.Tabulate.{tabulate_at}
use Rattle.nodes_to_visit.specs.Sheet.{Node, Configuration}
use Rattle.nodes_to_visit.specs.Orders.{Move}
use Rattle.nodes_to_visit.specs.Moves.{moves}
use Rattle.movable_nodes.specs.NodeMoves.{NodeBeside, placed_moves}
use Rattle.nodes_to_visit.specs.Promise.{PassesLimit}
use Rattle.ask_labels.specs.ClosureTable.{closures_agree}
use Rattle.collected_moves.specs.MemberTable.{members_in, part_at}
use Rattle.collected_moves.specs.TableInPart.{part_outside, kept_outside}
use Rattle.ask_labels.specs.declared.Shelf.{Shelf}
use Rattle.ask_labels.specs.LabelShelf.{Shelved}
use Rattle.ask_labels.specs.LabelShelfLaws.{sets_few, room_agree, shelved_agree}
use Rattle.collected_moves.specs.declared.Caps.{Caps}
use Rattle.collected_moves.specs.declared.Running.{Running}
use Rattle.std.specs.Prelude.{Option, Some, None}
use Rattle.collected_moves.specs.CollectedMoves.{members_of, moves_of, Collecting, Grown, NotedOn, NoRoom}
use Rattle.collected_moves.specs.CollectedLaws.{grown_refl, grown_trans}
use Rattle.collected_moves.specs.CollectedFrames.{members_outside, moves_outside, collecting_outside, grown_outside}
use Rattle.set_growth.specs.SetGrowth.{Growth, Sound, InSet, InHand, Gathered}
use Rattle.set_growth.specs.SetGrowthLaws.{target_in_set, gathered_same, no_room_passes}
use Rattle.nodes_to_visit.specs.ThreadsBeside.{placed}
use Rattle.nodes_to_visit.specs.NodesToVisit.{pending_one, pending_in}
use Rattle.nodes_to_visit.specs.NodesToVisitLaws.{pending_same, pending_same_packed, weight, weight_none, weight_next, weight_append}
use Rattle.walk_state.specs.declared.Basis.{Basis}
use Rattle.walk_state.specs.declared.Walk.{Walk}
use Rattle.walk_state.specs.WalkState.{MemberFits, VisitFits, Entry, Walking, InReach, InReachBelow, Covering, OnSheet, Carried, TurnOn, TurnOver}
use Rattle.collected_moves.specs.WorkLayout.{work_end, table_length, moves_at, members_at, marks_at, pending_at, pending_end, heads_at, lists_end, set_room}

-- ---- several moves noted
-- these moves are collected, with their targets, and no other move or member came in
pub record NotedAll (v : List ℕ) (first : ℕ) (s : Running) (l : Caps) (ms : List Move) (w : List ℕ) (t : Running) : Type 0 where
  pub collecting : Collecting w first t l
  pub grown : Grown v first s w t
  pub members_only : (x : Configuration) → Memᴰ x (members_of w t)
      → ((m : Move) × Memᴰ m ms × (x ≡ m.target)) ⊎ Memᴰ x (members_of v s)
  pub moves_only : (k : Move) → Memᴰ k (moves_of w first t) → Memᴰ k ms ⊎ Memᴰ k (moves_of v first s)
  pub moves_in : (m : Move) → Memᴰ m ms → Memᴰ m (moves_of w first t)
  -- only members and moves are written
  pub inside : SameOutside (moves_at + first) (members_at + table_length) v w

-- a cap is passed: where they are all moves of the member in hand, the set passes a limit
pub record AllPass (v : List ℕ) (first : ℕ) (s : Running) (l : Caps) (ms : List Move) (w : List ℕ) : Type 0 where
  pub passes : (g : Growth) (h : InHand g) → Sound g l → Gathered g h v first s
      → ((m : Move) → Memᴰ m ms → Memᴰ m (moves g.sheet h.member)) → PassesLimit g.sheet g.limits g.seeds
  pub inside : SameOutside (moves_at + first) (members_at + table_length) v w

-- what noting several moves gives
abbrev pub NotedAllAs : List ℕ → ℕ → Running → Caps → List Move → List ℕ → Option Running → Type 0
NotedAllAs v first s l ms w (Some t) = NotedAll v first s l ms w t
NotedAllAs v first s l ms w None = AllPass v first s l ms w

pub noted_none : {v : List ℕ} {first : ℕ} {s : Running} {l : Caps} → Collecting v first s l → NotedAll v first s l [] v s
noted_none {v} {first} {s} c =
    record {
      collecting = c;
      grown = grown_refl v first s;
      members_only = λ x m. inr m;
      moves_only = λ k m. inr m;
      moves_in = λ m i. absurd (Memᴰ.not-nil i);
      inside = outside_same (moves_at + first) (members_at + table_length) v;
    }

module _ {v : List ℕ} {first : ℕ} {s : Running} {l : Caps} {ms : List Move} {u : List ℕ} {r : Running}
    (a : NotedAll v first s l ms u r) where
  -- one move more
  pub noted_next : {m : Move} {w : List ℕ} {t : Running} → NotedOn u first r l m w t → NotedAll v first s l (ms ++ (m ∷ [])) w t
  noted_next {m} {w} {t} n =
      record {
        collecting = n.collecting;
        grown = grown_trans v u w first s r t a.grown n.grown;
        members_only = λ x i.
            ⊎_elim (λ (e : x ≡ m.target). inl (m, Memᴰ.append_right ms (Memᴰ.head refl), e))
            (λ (o : Memᴰ x (members_of u r)).
            ⊎_elim (λ (y : (k : Move) × Memᴰ k ms × (x ≡ k.target)). inl (y.0, Memᴰ.append_left (m ∷ []) y.1, y.2))
            (λ (y : Memᴰ x (members_of v s)). inr y) (a.members_only x o))
            (n.members_only x i);
        moves_only = λ k i.
            ⊎_elim (λ (e : k ≡ m). inl (Memᴰ.append_right ms (Memᴰ.head e)))
            (λ (o : Memᴰ k (moves_of u first r)).
            ⊎_elim (λ (y : Memᴰ k ms). inl (Memᴰ.append_left (m ∷ []) y)) (λ (y : Memᴰ k (moves_of v first s)). inr y)
            (a.moves_only k o))
            (n.moves_only k i);
        moves_in = λ k i.
            ⊎_elim (λ (o : Memᴰ k ms). n.grown.moves_keep k (a.moves_in k o))
            (λ (o : Memᴰ k (m ∷ [])).
            subst (λ (z : Move). Memᴰ z (moves_of w first t)) (sym (Memᴰ.eq_of_singleton o)) n.move_in)
            (Memᴰ.append_cases ms i);
        inside = outside_again a.inside n.inside;
      }

  -- what is gathered stays within the set
  pub all_gathered : {g : Growth} {h : InHand g} → Gathered g h v first s
      → ((m : Move) → Memᴰ m ms → Memᴰ m (moves g.sheet h.member)) → Gathered g h u first r
  all_gathered {g} {h} b of =
      record {
        before = b.before;
        members_in_lem = λ x i.
            ⊎_elim
            (λ (y : (m : Move) × Memᴰ m ms × (x ≡ m.target)).
            subst (InSet g) (sym y.2) (target_in_set h (of y.0 y.1)))
            (λ (y : Memᴰ x (members_of v s)). b.members_in_lem x y) (a.members_only x i);
        moves_of_lem = λ k i.
            ⊎_elim (λ (y : Memᴰ k ms). of k y) (λ (y : Memᴰ k (moves_of v first s)). b.moves_of_lem k y) (a.moves_only k i);
      }

  -- there is no room for one move more, which is with these among others
  pub pass_next : {m : Move} {w : List ℕ} (ns : List Move) → ((k : Move) → Memᴰ k (ms ++ (m ∷ [])) → Memᴰ k ns)
      → NoRoom u first r l m w → AllPass v first s l ns w
  pass_next {m} {w} ns among n =
      record {
        passes = λ g h sound b of.
            no_room_passes sound a.collecting (all_gathered b (λ k i. of k (among k (Memᴰ.append_left (m ∷ []) i))))
            (of m (among m (Memᴰ.append_right ms (Memᴰ.head refl)))) n;
        inside = outside_again a.inside n.inside;
      }

-- one move alone
pub noted_one : {v : List ℕ} {first : ℕ} {s : Running} {l : Caps} {m : Move} {w : List ℕ} {t : Running} → Collecting v first s l
    → NotedOn v first s l m w t → NotedAll v first s l (m ∷ []) w t
noted_one c n = noted_next (noted_none c) n

pub pass_one : {v : List ℕ} {first : ℕ} {s : Running} {l : Caps} {m : Move} {w : List ℕ} → Collecting v first s l
    → NoRoom v first s l m w → AllPass v first s l (m ∷ []) w
pass_one {m = m} c n = pass_next (noted_none c) (m ∷ []) (λ k i. i) n

-- ---- the answer taken apart
module _ {v : List ℕ} {first : ℕ} {s : Running} {l : Caps} {ms : List Move} {w : List ℕ} {r : Option Running} where
  pub all_on : {t : Running} → r ≡ Some t → NotedAllAs v first s l ms w r → NotedAll v first s l ms w t
  all_on e h = subst (NotedAllAs v first s l ms w) e h

  pub all_over : r ≡ None → NotedAllAs v first s l ms w r → AllPass v first s l ms w
  all_over e h = subst (NotedAllAs v first s l ms w) e h

-- ---- the table of closures
-- a sheet stays that of the slice where nothing is changed before the moves in hand
pub grown_sheet : {rank : ℕ → ℕ} {b : Basis} {v w : List ℕ} {s : Walk} {g : Growth} {nodes : List Node} → Walking rank v b s
    → SameOutside (moves_at + b.first) work_end v w → OnSheet g nodes b v → OnSheet g nodes b w
grown_sheet {b = b} {v} {w} k o h =
    record {
      sound = h.sound;
      nodes_are = h.nodes_are;
      node_count_lem = h.node_count_lem;
      facts_are = h.facts_are;
      closures =
          closures_agree h.closures (λ i l. o.at i (inl (omega (arith, sets_few b.facts k.shelf_room.few))));
    }

-- ---- slices that agree on the places of entries have the same ones
module _ (v w : List ℕ) (n : ℕ) (few : n ≤ 64)
    (same : (i : ℕ) → pending_at ≤ i → i < pending_end → get_or w i 0 ≡ get_or v i 0) where
  same_pending : pending_in w n ≡ pending_in v n
  same_pending = pending_same v w n (λ i p q. same i p (omega arith))

  same_entry : {rank : ℕ → ℕ} {b : Basis} (i : ℕ) → i < n → Entry rank v b i → Entry rank w b i
  same_entry {rank} {b} i l h =
      let none : NodeBeside = record { node = 0; threads = [] } in
      let e : pending_one w i ≡ pending_one v i =
      sym (tabulate_at (pending_one w) n i none l) ∙ ap (λ (es : List NodeBeside). get_or es i none) same_pending
      ∙ tabulate_at (pending_one v) n i none l in
      record {
        packed = pending_same_packed v w n (λ j p q. same j p (omega arith)) i l h.packed;
        fits = subst (VisitFits b) (sym e) h.fits;
        height = subst (λ (x : NodeBeside). rank x.node + i < 64) (sym e) h.height;
      }

-- ---- after noting
-- the walk with other members and moves
abbrev pub walk_on : Walk → Running → Walk
walk_on s t = record { running = t; shelf = s.shelf; marks = s.marks; top = s.top }

-- the weight of a node is not 0
power_positive : (k : ℕ) → 0 < 3 ^ k
power_positive k = pow-le-pow_right {n = 3} (omega arith) {i = 0} {j = k} (omega arith)

module _ {rank : ℕ → ℕ} {b : Basis} {v : List ℕ} {s : Walk} {ms : List Move} {w : List ℕ} {t : Running} (k : Walking rank v b s)
    (n : NotedAll v b.first s.running b.caps ms w t) where
  noted_marks : part_at w marks_at ≡ part_at v marks_at
  noted_marks = part_outside n.inside marks_at (inr (omega arith))

  noted_pending : pending_in w s.top ≡ pending_in v s.top
  noted_pending = same_pending v w s.top k.top (λ i p q. n.inside.at i (inr (omega arith)))

  noted_table : (i : ℕ) → i < set_room → get_or w i 0 ≡ get_or v i 0
  noted_table i l = n.inside.at i (inl (omega arith))

  -- all stays in order, where the moves are to members that fit
  pub noted_walking : ((m : Move) → Memᴰ m ms → MemberFits b m.target × (m.label < 2 ^ b.facts)) → Walking rank w b (walk_on s t)
  noted_walking fits =
      record {
        collecting = n.collecting;
        fit = λ x i.
            ⊎_elim
            (λ (y : (m : Move) × Memᴰ m ms × (x ≡ m.target)). subst (MemberFits b) (sym y.2) (fits y.0 y.1).0)
            (λ (y : Memᴰ x (members_of v s.running)). k.fit x y) (n.members_only x i);
        small = λ m i.
            ⊎_elim (λ (y : Memᴰ m ms). (fits m y).1) (λ (y : Memᴰ m (moves_of v b.first s.running)). k.small m y)
            (n.moves_only m i);
        marks = kept_outside n.inside marks_at s.marks (inr (omega arith)) k.marks;
        shelf_room = room_agree k.shelf_room n.inside.long noted_table;
        shelved =
            shelved_agree v w b.facts b.store k.shelf_room.few
            (record { long = n.inside.long; table = noted_table; shelf = λ i l u. n.inside.at i (inr (omega arith)) })
            s.shelf k.shelved;
        top = k.top;
        entries = λ i l. same_entry v w s.top k.top (λ j p q. n.inside.at j (inr (omega arith))) i l (k.entries i l);
      }

  module _ (e : NodeBeside) (g : Growth) (h : InHand g) (are : placed_moves g.sheet b.store e ≡ ms) where
    -- what was in reach is in reach
    noted_reach : (m : Move) → InReach g b v s (e ∷ []) m → InReach g b w (walk_on s t) [] m
    noted_reach m (inl i) = inl (n.grown.moves_keep m i)
    noted_reach m (inr x) =
        ⊎_elim
        (λ (q : x.0 ≡ e).
        inl (n.moves_in m
        (subst (Memᴰ m) are (subst (λ (z : NodeBeside). Memᴰ m (placed_moves g.sheet b.store z)) q x.2))))
        (λ (o : Memᴰ x.0 (pending_in v s.top)). inr (x.0, subst (Memᴰ x.0) (sym noted_pending) o, x.2))
        (Memᴰ.cases_cons x.1)

    noted_below : (i : ℕ) (m : Move) → InReachBelow rank g b v s (e ∷ []) i m → InReachBelow rank g b w (walk_on s t) [] i m
    noted_below i m (inl k) = inl (n.grown.moves_keep m k)
    noted_below i m (inr (inl x)) =
        inl (n.moves_in m
        (subst (Memᴰ m) are
        (subst (λ (z : NodeBeside). Memᴰ m (placed_moves g.sheet b.store z)) (Memᴰ.eq_of_singleton x.1) x.3)))
    noted_below i m (inr (inr x)) = inr (inr (x.0, subst (Memᴰ x.0) (sym noted_pending) x.1, x.2, x.3))

    -- the moves noted are moves of the member in hand
    pub noted_of : {extra : List NodeBeside} → Covering rank g h b v s (e ∷ extra) → (m : Move) → Memᴰ m ms
        → Memᴰ m (moves g.sheet h.member)
    noted_of c m i = c.given e (Memᴰ.head refl) m (subst (Memᴰ m) (sym are) i)

    noted_carried : Covering rank g h b v s (e ∷ []) → Carried rank g h b v s (e ∷ []) w (walk_on s t)
    noted_carried c =
        record {
          covering = record {
            gathered = all_gathered n c.gathered (noted_of c);
            visited = λ x i m j.
                noted_below (rank x.node) m
                (c.visited x (subst (λ (l : List ℕ). Memᴰ x (map placed (members_in l s.marks))) noted_marks i) m j);
            given = λ x i m j. c.given x (Memᴰ.tail (subst (Memᴰ x) noted_pending i)) m j;
          };
          carries = noted_reach;
        }

  -- a turn of the walk in which the moves of a node that was taken out are noted
  pub noted_turn : (nodes : List Node) (e : NodeBeside)
      → ((m : Move) → Memᴰ m ms → MemberFits b m.target × (m.label < 2 ^ b.facts))
      → ((g : Growth) → OnSheet g nodes b v → placed_moves g.sheet b.store e ≡ ms)
      → TurnOn rank nodes b v s (e ∷ []) w (walk_on s t)
  noted_turn nodes e fits are =
      record {
        walking = noted_walking fits;
        grown = n.grown;
        lighter =
            omega (
              arith,
              ap (weight rank) noted_pending,
              weight_next rank [] e,
              weight_none rank,
              weight_append rank (e ∷ []) (pending_in v s.top),
              power_positive (rank e.node + 1),
            );
        carried = λ g h o c. noted_carried e g h (are g o) c;
      }

-- where a cap is passed
pub noted_over : {rank : ℕ → ℕ} {b : Basis} {v : List ℕ} {s : Walk} {ms : List Move} {w : List ℕ}
    → AllPass v b.first s.running b.caps ms w → (nodes : List Node) (e : NodeBeside)
    → ((g : Growth) → OnSheet g nodes b v → placed_moves g.sheet b.store e ≡ ms) → TurnOver rank nodes b v s (e ∷ []) w
noted_over {rank} {b} {v} {s} {ms} {w} n nodes e are =
    record {
      passes = λ g h o c.
          n.passes g h o.sound c.gathered
          (λ m i. c.given e (Memᴰ.head refl) m (subst (Memᴰ m) (sym (are g o)) i));
      outside = outside_wider n.inside (moves_at + b.first) work_end (omega arith) (omega arith);
    }

-- ---- other labels on the shelf
-- the walk with another shelf
abbrev pub reshelved : Walk → Shelf → Walk
reshelved s q = record { running = s.running; shelf = q; marks = s.marks; top = s.top }

module _ {rank : ℕ → ℕ} {b : Basis} {v u : List ℕ} {s : Walk} (q : Shelf) (k : Walking rank v b s) (o : SameOutside heads_at lists_end v u) where
  moves_below : moves_at + s.running.moves ≤ heads_at
  moves_below = omega (arith, k.collecting.room, k.collecting.caps)

  shelf_members : members_of u s.running ≡ members_of v s.running
  shelf_members = members_outside o (inl (omega arith)) s.running.members

  shelf_moves : moves_of u b.first s.running ≡ moves_of v b.first s.running
  shelf_moves = moves_outside o (inl (omega arith)) b.first s.running (inl moves_below)

  shelf_pending : pending_in u s.top ≡ pending_in v s.top
  shelf_pending = same_pending v u s.top k.top (λ i x y. o.at i (inl (omega arith)))

  shelf_marks : part_at u marks_at ≡ part_at v marks_at
  shelf_marks = part_outside o marks_at (inl (omega arith))

  first_low : moves_at + b.first ≤ heads_at
  first_low = omega (arith, moves_below, k.collecting.room)

  shelf_grown : Grown v b.first s.running u s.running
  shelf_grown =
      grown_outside o (inl (omega arith)) b.first s.running (inl moves_below) first_low (omega arith)

  pub shelf_walking : Shelved u b.facts b.store q → Walking rank u b (reshelved s q)
  shelf_walking shelved =
      record {
        collecting = collecting_outside o (inl (omega arith)) b.first s.running (inl moves_below) k.collecting;
        fit = λ x m. k.fit x (subst (Memᴰ x) shelf_members m);
        small = λ x m. k.small x (subst (Memᴰ x) shelf_moves m);
        marks = kept_outside o marks_at s.marks (inl (omega arith)) k.marks;
        shelf_room = room_agree k.shelf_room o.long (λ i l. o.at i (inl (omega arith)));
        shelved = shelved;
        top = k.top;
        entries = λ i l. same_entry v u s.top k.top (λ j x y. o.at j (inl (omega arith))) i l (k.entries i l);
      }

  shelf_sheet : {g : Growth} {nodes : List Node} → OnSheet g nodes b v → OnSheet g nodes b u
  shelf_sheet h = grown_sheet k shelf_grown.outside h

  module _ (g : Growth) (extra : List NodeBeside) where
    shelf_reach : (m : Move) → InReach g b v s extra m → InReach g b u (reshelved s q) extra m
    shelf_reach m (inl i) = inl (subst (Memᴰ m) (sym shelf_moves) i)
    shelf_reach m (inr x) =
        inr (x.0, subst (λ (l : List NodeBeside). Memᴰ x.0 (extra ++ l)) (sym shelf_pending) x.1, x.2)

    shelf_below : (i : ℕ) (m : Move) → InReachBelow rank g b v s extra i m → InReachBelow rank g b u (reshelved s q) extra i m
    shelf_below i m (inl k) = inl (subst (Memᴰ m) (sym shelf_moves) k)
    shelf_below i m (inr (inl x)) = inr (inl x)
    shelf_below i m (inr (inr x)) = inr (inr (x.0, subst (Memᴰ x.0) (sym shelf_pending) x.1, x.2, x.3))

    shelf_covering : {h : InHand g} → Covering rank g h b v s extra → Covering rank g h b u (reshelved s q) extra
    shelf_covering c =
        record {
          gathered = gathered_same shelf_members shelf_moves c.gathered;
          visited = λ e i m j.
              shelf_below (rank e.node) m (c.visited e (subst (λ (l : List ℕ). Memᴰ e (map placed (members_in l s.marks))) shelf_marks i) m j);
          given = λ e i m j.
              c.given e (subst (λ (l : List NodeBeside). Memᴰ e (extra ++ l)) shelf_pending i) m j;
        }

  -- a turn after the shelf has other labels is a turn from before
  pub shelf_turn : {nodes : List Node} {extra : List NodeBeside} {w : List ℕ} {t : Walk}
      → TurnOn rank nodes b u (reshelved s q) extra w t → TurnOn rank nodes b v s extra w t
  shelf_turn {nodes} {extra} {w} {t} n =
      record {
        walking = n.walking;
        grown = grown_trans v u w b.first s.running s.running t.running shelf_grown n.grown;
        lighter =
            subst (λ (l : List NodeBeside). weight rank (pending_in w t.top) < weight rank (extra ++ l)) shelf_pending n.lighter;
        carried = λ g h a c.
            let x = n.carried g h (shelf_sheet a) (shelf_covering g extra c) in
            record { covering = x.covering; carries = λ m i. x.carries m (shelf_reach g extra m i) };
      }

  pub shelf_turn_over : {nodes : List Node} {extra : List NodeBeside} {w : List ℕ}
      → TurnOver rank nodes b u (reshelved s q) extra w → TurnOver rank nodes b v s extra w
  shelf_turn_over {nodes} {extra} n =
      record {
        passes = λ g h a c. n.passes g h (shelf_sheet a) (shelf_covering g extra c);
        outside =
            outside_then o n.outside (moves_at + b.first) work_end (omega (arith, first_low)) (omega arith) (omega arith) (omega arith);
      }
