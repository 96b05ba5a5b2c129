-- Why visiting a tell and an ask is right: what is noted are the moves that the node gives on every sheet with this table, their
-- targets fit, and an ask whose threads are too many gives a move to a member with too many threads.
use Rattle.std.specs.Prelude.{◌≡◌, refl, ℕ, ◌+◌, ◌%◌, ◌^◌, ◌≤◌, ◌<◌, length, get_or, take}
use Rattle.std.proofs.Common.{sym, ap, ap₂, ◌∙◌, subst, arith, pow_pos, length-take}
use mathlib.Core.List.Memᴰ
use mathlib.Core.List.{List, [], ◌∷◌, ◌++◌, map, Memᴰ}
use Rattle.std.proofs.lemmas.List.{length-map}
use Rattle.std.specs.Int.Bits.{bit_or}
use Rattle.std.proofs.lemmas.Nat.{or_lt}
use Rattle.move_entry.specs.Lists.{NotFalling, sort_up}
use Rattle.sheet_types.specs.AscendingLaws.{sort_up_same}
use Rattle.closure_table.specs.Frames.{outside_same}
use Rattle.move_entry.specs.Members.{mem_map, map_mem}
use Rattle.closure_table.specs.Stores.{conclusions, closure, join}
use Rattle.closure_table.specs.StoreLaws.{closure_lt, join_right}
use Rattle.sheet_types.specs.Sheet.{Node, tell, ask, Sheet, node_of, opened}
use Rattle.sheet_types.specs.WellFormed as well_formed
use Rattle.threads_beside.specs.Ranks.{Ranked}
use Rattle.sheet_types.specs.Orders.{Move}
use Rattle.label_moves.specs.Moves.{labels}
use Rattle.threads_beside.specs.LabelLaws.{label_constraint, label_below}
use Rattle.walk_state.specs.SheetMoves.{conclusions_fit}
use Rattle.threads_beside.specs.NodeMoves.{NodeBeside, placed_moves}
use Rattle.threads_beside.specs.NodeMoveLaws.{moves_of_tell, moves_of_ask}
use Rattle.threads_beside.specs.ThreadLaws.{sort_append_length, insert_all_sorts}
use Rattle.closure_table.specs.ClosureTable.{closure_at}
use Rattle.move_entry.specs.NumberLists.{numbers_in}
use Rattle.collected_moves.specs.NumberLaws.{numbers_at_lem}
use Rattle.threads_beside.specs.declared.NodeBeside as held
use Rattle.threads_beside.specs.ThreadsBeside.{node_beside, BesideJoined}
use Rattle.ask_labels.specs.declared.Labelled.{Labelled}
use Rattle.ask_labels.specs.AskLabels.{LabelsAre, part}
use Rattle.ask_labels.specs.LabelShelf.{ShelfRoom, LabelsGiven}
use Rattle.ask_labels.specs.LabelShelfLaws.{sets_few}
use Rattle.collected_moves.specs.declared.Running.{Running}
use Rattle.collected_moves.specs.CollectedMoves.{Collecting, NotedOn, NoRoom}
use Rattle.walk_state.specs.SetGrowth.{Growth}
use Rattle.walk_state.specs.SetGrowthLaws.{move_threads_pass}
use Rattle.walk_state.specs.declared.Basis.{Basis}
use Rattle.walk_state.specs.declared.Walk.{Walk}
use Rattle.walk_state.specs.WalkState.{NodesOf, MemberFits, VisitFits, Walking, OnSheet, TurnOn, TurnOver}
use Rattle.walk_state.specs.PushedInWalk.{threads_joined}
use Rattle.walk_state.specs.NotedInWalk.{NotedAll, AllPass, noted_one, pass_one, noted_turn, noted_over, walk_on, reshelved, shelf_walking, shelf_turn, shelf_turn_over}
use Rattle.label_moves.specs.LabelMoves.{label_move, label_moves, LabelsStand}
use Rattle.tell_ask_visits.specs.TellAskMoves.{tell_move}
use Rattle.collected_moves.specs.WorkLayout.{work_end, moves_at}

-- ---- the table
-- an entry of the table is a set of the facts
pub table_lt : {facts d : ℕ} {w : List ℕ} → ShelfRoom facts d w → (x : ℕ) → x < 2 ^ facts → get_or w x 0 % 65536 < 2 ^ facts
table_lt {facts} {d} {w} h x l =
    let t = h.table in
    omega (
      arith,
      closure_at t.rules facts w x t.closures l t.fit (omega (arith, sets_few facts h.few)),
      closure_lt t.rules facts x l t.fit,
    )

-- the union of the store and such a set has its place in the slice
pub sum_place : {rank : ℕ → ℕ} {b : Basis} {v : List ℕ} {s : Walk} → Walking rank v b s → (c : ℕ) → c < 2 ^ b.facts → bit_or b.store c < length v
sum_place {b = b} k c l =
    let room = k.shelf_room in
    omega (arith, or_lt b.facts b.store c room.store l, sets_few b.facts room.few, room.long)

-- a label is a set of the facts
pub label_small : {facts d c : ℕ} {w found : List ℕ} → ShelfRoom facts d w → LabelsAre w facts d c found → (a : ℕ) → Memᴰ a found
    → a < 2 ^ facts
label_small {facts} {d} {c} {w} {found} h k a m =
    let t = h.table in
    let sheet : Sheet = record { facts = facts; rules = t.rules; nodes = []; starts = [] } in
    (label_constraint sheet d c (subst (Memᴰ a) (k.are sheet refl t.closures t.fit) m)).facts

-- ---- on a sheet with this table
module _ {rank : ℕ → ℕ} {b : Basis} {v : List ℕ} {s : Walk} (k : Walking rank v b s) {e : NodeBeside} (fit : VisitFits b e) {nodes : List Node}
    (of : NodesOf rank b nodes) (g : Growth) (o : OnSheet g nodes b v) where
  node_inside : e.node < length g.sheet.nodes
  node_inside = omega (arith, ap (λ (l : List Node). length l) o.nodes_are, o.node_count_lem, fit.node)

  sheet_ranked : Ranked rank g.sheet.nodes
  sheet_ranked = subst (Ranked rank) (sym o.nodes_are) of.ranked

  sheet_fits : conclusions g.sheet.rules < 2 ^ b.facts
  sheet_fits = subst (λ (n : ℕ). conclusions g.sheet.rules < 2 ^ n) o.facts_are (conclusions_fit g.sheet o.sound.well_formed)

  closure_is : (x : ℕ) → x < 2 ^ b.facts → closure g.sheet.rules x ≡ get_or v x 0 % 65536
  closure_is x l =
      sym (closure_at g.sheet.rules b.facts v x o.closures l sheet_fits
      (omega (arith, sets_few b.facts k.shelf_room.few)))

  -- the move of a tell
  tell_gives : (c : ℕ) → c < 2 ^ b.facts → node_of nodes e.node ≡ tell c
      → placed_moves g.sheet b.store e ≡ tell_move v b.store e.threads c ∷ []
  tell_gives c l q =
      moves_of_tell g.sheet sheet_ranked b.store e.threads e.node node_inside c
      (ap (λ (ns : List Node). node_of ns e.node) o.nodes_are ∙ q)
      ∙ ap (λ (ts : List ℕ). record {
        label = closure g.sheet.rules 0;
        target = record { store = closure g.sheet.rules (bit_or b.store c); threads = ts };
      } ∷ []) (sort_up_same e.threads fit.threads.ascending)
      ∙ ap₂ (λ (x y : ℕ). record { label = x; target = record { store = y; threads = e.threads } } ∷ [])
      (closure_is 0 (pow_pos b.facts))
      (closure_is (bit_or b.store c) (or_lt b.facts b.store c k.shelf_room.store l))

  -- the moves of an ask, by its labels
  ask_gives : (c q : ℕ) → node_of nodes e.node ≡ ask c q
      → placed_moves g.sheet b.store e
      ≡ map (λ a. record {
        label = a;
        target = record {
          store = join g.sheet.rules b.store a;
          threads = sort_up (opened nodes q ++ e.threads);
        };
      }) (labels g.sheet b.store c)
  ask_gives c q x =
      moves_of_ask g.sheet sheet_ranked b.store e.threads e.node node_inside c q
      (ap (λ (ns : List Node). node_of ns e.node) o.nodes_are ∙ x)
      ∙ ap (λ (ns : List Node). map (λ (a : ℕ). record {
        label = a;
        target = record {
          store = join g.sheet.rules b.store a;
          threads = sort_up (opened ns q ++ e.threads);
        };
      }) (labels g.sheet b.store c)) o.nodes_are

  map_on : (f h : ℕ → Move) (xs : List ℕ) → ((a : ℕ) → Memᴰ a xs → f a ≡ h a) → map f xs ≡ map h xs
  map_on f h [] q = refl
  map_on f h (x ∷ xs) q =
      ap₂ (λ (m : Move) (l : List Move). m ∷ l) (q x (Memᴰ.head refl)) (map_on f h xs (λ a i. q a (Memᴰ.tail i)))

  -- and where they stand
  ask_labelled : (c q from end : ℕ) → node_of nodes e.node ≡ ask c q → LabelsAre v b.facts b.store c (part v from end)
      → placed_moves g.sheet b.store e ≡ label_moves v b.store (sort_up (opened nodes q ++ e.threads)) from end
  ask_labelled c q from end x are =
      let ts : List ℕ = sort_up (opened nodes q ++ e.threads) in
      let f : ℕ → Move = λ a. record { label = a; target = record { store = join g.sheet.rules b.store a; threads = ts } } in
      ask_gives c q x
      ∙ ap (map f) (sym (are.are g.sheet o.facts_are o.closures sheet_fits))
      ∙ map_on f (label_move v b.store ts) (part v from end)
      (λ a i. ap (λ (z : ℕ). record { label = a; target = record { store = z; threads = ts } })
      (closure_is (bit_or b.store a)
      (or_lt b.facts b.store a k.shelf_room.store (label_small k.shelf_room are a i))))

  -- an ask has a label, so that it gives a move
  ask_moves : (c q : ℕ) → node_of nodes e.node ≡ ask c q
      → (m : Move) × Memᴰ m (placed_moves g.sheet b.store e)
      × (length m.target.threads ≡ length (opened nodes q) + length e.threads)
  ask_moves c q x =
      let ts : List ℕ = sort_up (opened nodes q ++ e.threads) in
      let f : ℕ → Move = λ a. record { label = a; target = record { store = join g.sheet.rules b.store a; threads = ts } } in
      let fits : well_formed.NodeFits g.sheet.facts g.sheet.rules (length g.sheet.nodes) e.node (ask c q) =
      subst (well_formed.NodeFits g.sheet.facts g.sheet.rules (length g.sheet.nodes) e.node)
      (ap (λ (ns : List Node). node_of ns e.node) o.nodes_are ∙ x)
      (o.sound.well_formed.nodes_fit e.node node_inside) in
      let y = label_below g.sheet b.store c c fits.0 (join_right g.sheet.rules b.store c) in
      (f y.0, subst (Memᴰ (f y.0)) (sym (ask_gives c q x)) (map_mem f y.1), sort_append_length (opened nodes q) e.threads)

-- ---- a tell
module _ {rank : ℕ → ℕ} {b : Basis} {v : List ℕ} {s : Walk} (k : Walking rank v b s) {e : NodeBeside} (fit : VisitFits b e) {c : ℕ} (l : c < 2 ^ b.facts)
    (nodes : List Node) (of : NodesOf rank b nodes) (q : node_of nodes e.node ≡ tell c) where
  pub tell_turn : {w : List ℕ} {t : Running}
      → NotedOn v b.first s.running b.caps (tell_move v b.store e.threads c) w t
      → TurnOn rank nodes b v s (e ∷ []) w (walk_on s t)
  tell_turn n =
      noted_turn k (noted_one k.collecting n) nodes e
      (λ m i.
      subst (λ (x : Move). MemberFits b x.target × (x.label < 2 ^ b.facts)) (sym (Memᴰ.eq_of_singleton i)) (
        record {
          store = table_lt k.shelf_room (bit_or b.store c) (or_lt b.facts b.store c k.shelf_room.store l);
          threads = fit.threads;
        },
        table_lt k.shelf_room 0 (pow_pos b.facts),
      ))
      (λ g o. tell_gives k fit of g o c l q)

  pub tell_over : {w : List ℕ} → NoRoom v b.first s.running b.caps (tell_move v b.store e.threads c) w
      → TurnOver rank nodes b v s (e ∷ []) w
  tell_over n = noted_over (pass_one k.collecting n) nodes e (λ g o. tell_gives k fit of g o c l q)

-- ---- an ask
-- ---- the threads of the next node among those of e
-- the places of threads that a struct has are eight
pub eight_places : (ts : List ℕ) → length (map (λ (t : ℕ). t) ts) ≡ 8 → length ts ≡ 8
eight_places ts h = sym (length-map ts (λ (t : ℕ). t)) ∙ h

-- so many threads as it counts
pub counted : (ts : List ℕ) (n : ℕ) → length ts ≡ 8 → n ≤ 8 → length (take n ts) ≡ n
counted ts n h l = simp length-take (omega arith)

pub beside_many : (e : held.NodeBeside) {threads o : List ℕ} {limit : ℕ} → threads ≡ o → limit < e.count + length threads → length e.threads ≡ 8
    → e.count ≤ 8 → limit < length o + length (node_beside e).threads
beside_many e {threads} q h l k = omega (arith, h, ap length q, counted e.threads e.count l k)

module _ {threads : List ℕ} {e : held.NodeBeside} {limit : ℕ} {o : List ℕ} (q : threads ≡ o) {at : held.NodeBeside}
    (h : BesideJoined threads e limit at) where
  pub beside_few : length e.threads ≡ 8 → e.count ≤ 8 → length o + length (node_beside e).threads ≤ limit
  beside_few l k = omega (arith, h.fits, ap length q, counted e.threads e.count l k)

  pub beside_sorted : NotFalling (node_beside e).threads → (node_beside at).threads ≡ sort_up (o ++ (node_beside e).threads)
  beside_sorted n =
      ap (λ (x : NodeBeside). x.threads) h.joined ∙ insert_all_sorts (node_beside e).threads threads n
      ∙ ap (λ (l : List ℕ). sort_up (l ++ (node_beside e).threads)) q

-- ---- the shelf
-- the labels that were asked for stand where they should
pub answered_stand : {rank : ℕ → ℕ} {b : Basis} {v u : List ℕ} {s : Walk} {c : ℕ} {a : Labelled} → Walking rank v b s
    → LabelsGiven v b.facts b.store c a u → LabelsStand u b.facts b.store a.first a.end
unfolding numbers_in
answered_stand {b = b} {v} {u} {s} {c} {a} k h =
    let room = (shelf_walking a.shelf k h.same h.shelved).shelf_room in
    record {
      few = room.few;
      store = room.store;
      low = h.low;
      order = h.order;
      high = h.high;
      small = λ i p q.
          label_small room h.labels (get_or u i 0)
          (numbers_at_lem u a.first a.end h.order (omega (arith, h.high, room.long)) i p q);
    }

pub answered_collecting : {rank : ℕ → ℕ} {b : Basis} {v u : List ℕ} {s : Walk} {c : ℕ} {a : Labelled} → Walking rank v b s
    → LabelsGiven v b.facts b.store c a u → Collecting u b.first s.running b.caps
answered_collecting {a = a} k h = (shelf_walking a.shelf k h.same h.shelved).collecting

module _ {rank : ℕ → ℕ} {b : Basis} {v : List ℕ} {s : Walk} (k : Walking rank v b s) {e : NodeBeside} (fit : VisitFits b e) {c q : ℕ}
    (nodes : List Node) (of : NodesOf rank b nodes) (x : node_of nodes e.node ≡ ask c q) where
  -- there are too many threads
  pub ask_no_room : b.caps.threads < length (opened nodes q) + length e.threads → TurnOver rank nodes b v s (e ∷ []) v
  ask_no_room l =
      record {
        passes = λ g h o cov.
            let y = ask_moves k fit of g o c q x in
            move_threads_pass o.sound h (cov.given e (Memᴰ.head refl) y.0 y.1) (omega (arith, y.2));
        outside = outside_same (moves_at + b.first) work_end v;
      }

  module _ {u : List ℕ} {a : Labelled} (h : LabelsGiven v b.facts b.store c a u) where
    after : Walking rank u b (reshelved s a.shelf)
    after = shelf_walking a.shelf k h.same h.shelved

    -- the moves of all labels are noted
    pub ask_turn : q < b.nodes → length (opened nodes q) + length e.threads ≤ b.caps.threads → {w : List ℕ} {t : Running}
        → NotedAll u b.first s.running b.caps
        (label_moves u b.store (sort_up (opened nodes q ++ e.threads)) a.first a.end) w t
        → TurnOn rank nodes b v s (e ∷ []) w (walk_on (reshelved s a.shelf) t)
    ask_turn lq few n =
        let ts : List ℕ = sort_up (opened nodes q ++ e.threads) in
        let room = after.shelf_room in
        shelf_turn a.shelf k h.same
        (noted_turn after n nodes e
        (λ m i.
        let y = mem_map (label_move u b.store ts) (part u a.first a.end) i in
        let small = label_small room h.labels y.0 y.1 in
        subst (λ (z : Move). MemberFits b z.target × (z.label < 2 ^ b.facts)) (sym y.2) (
          record {
            store = table_lt room (bit_or b.store y.0) (or_lt b.facts b.store y.0 room.store small);
            threads = threads_joined nodes of q lq fit.threads few;
          },
          small,
        ))
        (λ g o. ask_labelled after fit of g o c q a.first a.end x h.labels))

    -- a cap is passed on the way
    pub ask_over : {w : List ℕ}
        → AllPass u b.first s.running b.caps
        (label_moves u b.store (sort_up (opened nodes q ++ e.threads)) a.first a.end) w
        → TurnOver rank nodes b v s (e ∷ []) w
    ask_over n =
        shelf_turn_over a.shelf k h.same
        (noted_over n nodes e (λ g o. ask_labelled after fit of g o c q a.first a.end x h.labels))
