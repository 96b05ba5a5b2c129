-- Laws of the moves of a configuration, node by node: what each kind of node gives beside other threads, that a
-- configuration's moves are those of its threads, one after another, and which nodes give any.
use Rattle.std.specs.Prelude.{◌≡◌, refl, ◌↔◌, Bool, true, false, ◌||◌, ℕ, zero, suc, ◌≤◌, ◌<◌, length, get_or}
use Rattle.std.proofs.Common.{sym, ap, ap₂, ◌∙◌, subst, ⊎_elim, arith}
use mathlib.Core.List.Memᴰ
use mathlib.Core.List.{List, [], ◌∷◌, ◌++◌, map, map-map, map-append, Memᴰ}
use Rattle.std.proofs.Math.Seq.{append_snoc}
use Rattle.move_laws.specs.TestLaws.{true_false, or_false}
use Rattle.move_laws.specs.Members.{mem_map, map_mem}
use Rattle.move_laws.specs.Lists.{sort_up}
use Rattle.move_laws.specs.AscendingLaws.{arrange_keeps, arrange_only}
use Rattle.move_laws.specs.Stores.{join, least_store}
use Rattle.move_laws.specs.StoreLaws.{join_right}
use Rattle.move_laws.specs.Sheet.{Node, stop, tell, ask, both, either, Sheet, node_of, opened}
use Rattle.move_laws.specs.WellFormed.{NodeFits, WellFormed}
use Rattle.move_laws.specs.Ranks.{OfParts, Part, Ranked, rank_of, parts_map}
use Rattle.move_laws.specs.ReadingLaws.{well_formed_ranked}
use Rattle.move_laws.specs.Orders.{Move}
use Rattle.move_laws.specs.OrderLaws.{move_order}
use Rattle.move_laws.specs.Moves.{Step, labels, beside, steps_of, steps, move_of, moves_from, moves}
use Rattle.move_laws.specs.LabelLaws.{label_below}
use Rattle.move_laws.specs.NestingLaws.{steps_are}
use Rattle.node_moves.specs.NodeMoves.{node_moves, movable_of, movable_within, movable}
use Rattle.node_moves.specs.ThreadLaws.{sort_three, sort_append_length, rest_without}

-- ---- what each kind of node gives
map_same : {A B : Type 0} (f g : A → B) → ((a : A) → f a ≡ g a) → (xs : List A) → map f xs ≡ map g xs
map_same f g h [] = refl
map_same {A} {B} f g h (x ∷ xs) = ap₂ (λ (b : B) (l : List B). b ∷ l) (h x) (map_same f g h xs)

-- threads beside a step may be sorted among the others first
move_beside : (ts rest : List ℕ) (m : Step) → move_of rest (beside ts m) ≡ move_of (sort_up (ts ++ rest)) m
move_beside ts rest m =
    ap (λ (l : List ℕ). record { label = m.label; target = record { store = m.store; threads = l } }) (sort_three m.threads ts rest)

moves_beside : (ts rest : List ℕ) (xs : List Step) → map (move_of rest) (map (beside ts) xs) ≡ map (move_of (sort_up (ts ++ rest))) xs
moves_beside ts rest xs =
    map-map (move_of rest) (beside ts) xs
    ∙ map_same (λ (m : Step). move_of rest (beside ts m)) (move_of (sort_up (ts ++ rest))) (move_beside ts rest) xs

module _ {rank : ℕ → ℕ} (sheet : Sheet) (low : Ranked rank sheet.nodes) (d : ℕ) where
  -- the moves of a node are those that its kind says
  moves_of_kind : (B : List ℕ) (k : ℕ) → k < length sheet.nodes → (v : Node) → node_of sheet.nodes k ≡ v
      → node_moves sheet d B k ≡ map (move_of B) (steps_of sheet d (steps sheet d) v)
  moves_of_kind B k l v e = ap (map (move_of B)) (steps_are sheet d low k l ∙ ap (steps_of sheet d (steps sheet d)) e)

  module _ (B : List ℕ) (k : ℕ) (inside : k < length sheet.nodes) where
    pub moves_of_stop : node_of sheet.nodes k ≡ stop → node_moves sheet d B k ≡ []
    moves_of_stop e = moves_of_kind B k inside stop e

    pub moves_of_tell : (c : ℕ) → node_of sheet.nodes k ≡ tell c
        → node_moves sheet d B k
        ≡ record { label = least_store sheet.rules; target = record { store = join sheet.rules d c; threads = sort_up B } } ∷ []
    moves_of_tell c e = moves_of_kind B k inside (tell c) e

    pub moves_of_ask : (c q : ℕ) → node_of sheet.nodes k ≡ ask c q
        → node_moves sheet d B k
        ≡ map (λ a. record { label = a; target = record { store = join sheet.rules d a; threads = sort_up (opened sheet.nodes q ++ B) } })
        (labels sheet d c)
    moves_of_ask c q e =
        moves_of_kind B k inside (ask c q) e
        ∙ map-map (move_of B) (λ a. record { label = a; store = join sheet.rules d a; threads = opened sheet.nodes q }) (labels sheet d c)

    pub moves_of_both : (p q : ℕ) → node_of sheet.nodes k ≡ both p q
        → node_moves sheet d B k
        ≡ node_moves sheet d (sort_up (opened sheet.nodes q ++ B)) p ++ node_moves sheet d (sort_up (opened sheet.nodes p ++ B)) q
    moves_of_both p q e =
        let one : List ℕ = opened sheet.nodes p in
        let two : List ℕ = opened sheet.nodes q in
        moves_of_kind B k inside (both p q) e
        ∙ map-append (move_of B) (map (beside two) (steps sheet d p)) (map (beside one) (steps sheet d q))
        ∙ ap₂ (λ (x y : List Move). x ++ y) (moves_beside two B (steps sheet d p)) (moves_beside one B (steps sheet d q))

    pub moves_of_either : (p q : ℕ) → node_of sheet.nodes k ≡ either p q
        → node_moves sheet d B k ≡ node_moves sheet d B p ++ node_moves sheet d B q
    moves_of_either p q e = moves_of_kind B k inside (either p q) e ∙ map-append (move_of B) (steps sheet d p) (steps sheet d q)

-- ---- the moves of a configuration are those of its threads, each beside the rest
module _ (sheet : Sheet) (d : ℕ) where
  -- m is a move of the thread at some place, beside those passed and the rest
  abbrev MoveAt : List ℕ → List ℕ → Move → Type 0
  MoveAt passed ts m = (i : ℕ) × (i < length ts) × Memᴰ m (node_moves sheet d (passed ++ rest_without ts i) (get_or ts i 0))

  -- a thread passed stands before the rest
  passed_on : (passed : List ℕ) (t : ℕ) (ts : List ℕ) (k : ℕ)
      → node_moves sheet d ((passed ++ (t ∷ [])) ++ ts) k ≡ node_moves sheet d (passed ++ (t ∷ ts)) k
  passed_on passed t ts k = ap (λ (l : List ℕ). node_moves sheet d l k) (append_snoc passed t ts)

  from_place : (passed ts : List ℕ) (m : Move) → Memᴰ m (moves_from sheet d passed ts) → MoveAt passed ts m
  from_place passed [] m h = absurd (Memᴰ.not-nil h)
  from_place passed (t ∷ ts) m h =
      ⊎_elim
      (λ (x : Memᴰ m (node_moves sheet d (passed ++ ts) t)). (zero, omega arith, x))
      (λ (x : Memᴰ m (moves_from sheet d (passed ++ (t ∷ [])) ts)).
      let y = from_place (passed ++ (t ∷ [])) ts m x in
      let e = passed_on passed t (rest_without ts y.0) (get_or ts y.0 0) in
      (suc y.0, omega (arith, y.1), subst (λ (l : List Move). Memᴰ m l) e y.2))
      (Memᴰ.append_cases (node_moves sheet d (passed ++ ts) t) h)

  at_place : (passed ts : List ℕ) (m : Move) (i : ℕ) → i < length ts
      → Memᴰ m (node_moves sheet d (passed ++ rest_without ts i) (get_or ts i 0)) → Memᴰ m (moves_from sheet d passed ts)
  at_place passed [] m i l h = absurd (omega arith)
  at_place passed (t ∷ ts) m zero l h = Memᴰ.append_left (moves_from sheet d (passed ++ (t ∷ [])) ts) h
  at_place passed (t ∷ ts) m (suc i) l h =
      Memᴰ.append_right (node_moves sheet d (passed ++ ts) t)
      (at_place (passed ++ (t ∷ [])) ts m i (omega arith)
      (subst (λ (l : List Move). Memᴰ m l) (sym (passed_on passed t (rest_without ts i) (get_or ts i 0))) h))

  pub move_by_thread : (ts : List ℕ) (m : Move)
      → Memᴰ m (moves sheet (record { store = d; threads = ts }))
      ↔ ((i : ℕ) × (i < length ts) × Memᴰ m (node_moves sheet d (rest_without ts i) (get_or ts i 0)))
  unfolding moves
  move_by_thread ts m = (
    λ h. from_place [] ts m (arrange_only move_order (moves_from sheet d [] ts) h),
    λ h. arrange_keeps move_order (moves_from sheet d [] ts) (at_place [] ts m h.0 h.1 h.2),
  )

  -- no move of a node loses a thread beside it
  pub node_move_threads : (B : List ℕ) (k : ℕ) (m : Move) → Memᴰ m (node_moves sheet d B k) → length B ≤ length m.target.threads
  node_move_threads B k m h =
      let x = mem_map (move_of B) (steps sheet d k) h in
      subst (λ (t : Move). length B ≤ length t.target.threads) (sym x.2) (omega (arith, sort_append_length x.0.threads B))

-- ---- which nodes have a step
-- only whether the parts have one matters
pub movable_same : (inner other : ℕ → Bool) (v : Node) → OfParts (λ j. inner j ≡ other j) v → movable_of inner v ≡ movable_of other v
movable_same inner other stop h = refl
movable_same inner other (tell c) h = refl
movable_same inner other (ask c q) h = refl
movable_same inner other (both p q) h = ap₂ (λ (a b : Bool). a || b) h.0 h.1
movable_same inner other (either p q) h = ap₂ (λ (a b : Bool). a || b) h.0 h.1

-- any number of nodes above the rank of k will do
movable_enough : {rank : ℕ → ℕ} (ns : List Node) → Ranked rank ns → (f g k : ℕ) → rank k < f → rank k < g
    → movable_within f ns k ≡ movable_within g ns k
unfolding movable_within
movable_enough ns low zero g k a b = absurd (omega arith)
movable_enough ns low (suc f) zero k a b = absurd (omega arith)
movable_enough {rank} ns low (suc f) (suc g) k a b =
    movable_same (movable_within f ns) (movable_within g ns) (node_of ns k)
    (parts_map (Part rank (length ns) k) (λ j. movable_within f ns j ≡ movable_within g ns j)
    (λ j l. movable_enough ns low f g j (omega (arith, l.lower)) (omega (arith, l.lower))) (node_of ns k) (low.parts k))

movable_step : (ns : List Node) (n k : ℕ) → movable_within (suc n) ns k ≡ movable_of (movable_within n ns) (node_of ns k)
unfolding movable_within
movable_step ns n k = refl

-- whether node k has a step is what its kind says
pub movable_is : {rank : ℕ → ℕ} (ns : List Node) → Ranked rank ns → (k : ℕ) → k < length ns
    → movable ns k ≡ movable_of (movable ns) (node_of ns k)
movable_is ns low k l =
    let h = low.small k l in
    movable_enough ns low (length ns) (suc (length ns)) k h (omega arith) ∙ movable_step ns (length ns) k

-- a node with no step gives no move
module _ {rank : ℕ → ℕ} (sheet : Sheet) (low : Ranked rank sheet.nodes) (d : ℕ) where
  still_below : (f k : ℕ) → rank k < f → k < length sheet.nodes → movable sheet.nodes k ≡ false → (B : List ℕ) → node_moves sheet d B k ≡ []
  still_below zero k a l h B = absurd (omega arith)
  still_below (suc f) k a l h B =
      go (still_below f) (node_of sheet.nodes k) refl (low.parts k) (sym (movable_is sheet.nodes low k l) ∙ h)
    where
      go : ((j : ℕ) → rank j < f → j < length sheet.nodes → movable sheet.nodes j ≡ false → (C : List ℕ) → node_moves sheet d C j ≡ [])
          → (v : Node) → node_of sheet.nodes k ≡ v → OfParts (Part rank (length sheet.nodes) k) v
          → movable_of (movable sheet.nodes) v ≡ false → node_moves sheet d B k ≡ []
      go ih stop e w s = moves_of_stop sheet low d B k l e
      go ih (tell c) e w s = true_false true refl s
      go ih (ask c q) e w s = true_false true refl s
      go ih (both p q) e w s =
          let x = or_false (movable sheet.nodes p) (movable sheet.nodes q) s in
          moves_of_both sheet low d B k l p q e
          ∙ ap₂ (λ (x y : List Move). x ++ y)
          (ih p (omega (arith, w.0.lower)) w.0.inside x.0 (sort_up (opened sheet.nodes q ++ B)))
          (ih q (omega (arith, w.1.lower)) w.1.inside x.1 (sort_up (opened sheet.nodes p ++ B)))
      go ih (either p q) e w s =
          let x = or_false (movable sheet.nodes p) (movable sheet.nodes q) s in
          moves_of_either sheet low d B k l p q e
          ∙ ap₂ (λ (x y : List Move). x ++ y) (ih p (omega (arith, w.0.lower)) w.0.inside x.0 B)
          (ih q (omega (arith, w.1.lower)) w.1.inside x.1 B)

  pub still_node : (B : List ℕ) (k : ℕ) → k < length sheet.nodes → movable sheet.nodes k ≡ false → node_moves sheet d B k ≡ []
  still_node B k l h = still_below (suc (rank k)) k (omega arith) l h B

-- a node with a step gives a move at any store, beside any threads
module _ (sheet : Sheet) (fine : WellFormed sheet) (d : ℕ) where
  -- node k gives a move beside the threads B
  abbrev SomeMove : List ℕ → ℕ → Type 0
  SomeMove B k = (m : Move) × Memᴰ m (node_moves sheet d B k)

  movable_below : (f k : ℕ) → rank_of k < f → k < length sheet.nodes → movable sheet.nodes k ≡ true → (B : List ℕ) → SomeMove B k
  movable_below zero k a l h B = absurd (omega arith)
  movable_below (suc f) k a l h B =
      go (movable_below f) (node_of sheet.nodes k) refl (fine.nodes_fit k l) (low.parts k) (sym (movable_is sheet.nodes low k l) ∙ h)
    where
      low : Ranked rank_of sheet.nodes
      low = well_formed_ranked sheet fine

      -- a move among those of the node's kind
      found : {ms : List Move} (m : Move) → node_moves sheet d B k ≡ ms → Memᴰ m ms → SomeMove B k
      found m e x = (m, subst (λ (l : List Move). Memᴰ m l) (sym e) x)

      -- one of two nodes has a step
      one_of : (C D : List ℕ) (p q : ℕ) → node_moves sheet d B k ≡ node_moves sheet d C p ++ node_moves sheet d D q
          → (movable sheet.nodes p ≡ true → SomeMove C p) → (movable sheet.nodes q ≡ true → SomeMove D q)
          → (b : Bool) → movable sheet.nodes p ≡ b → (b || movable sheet.nodes q) ≡ true → SomeMove B k
      one_of C D p q e one two true t s =
          let x = one t in found x.0 e (Memᴰ.append_left (node_moves sheet d D q) x.1)
      one_of C D p q e one two false t s =
          let x = two s in found x.0 e (Memᴰ.append_right (node_moves sheet d C p) x.1)

      go : ((j : ℕ) → rank_of j < f → j < length sheet.nodes → movable sheet.nodes j ≡ true → (C : List ℕ) → SomeMove C j)
          → (v : Node) → node_of sheet.nodes k ≡ v → NodeFits sheet.facts sheet.rules (length sheet.nodes) k v
          → OfParts (Part rank_of (length sheet.nodes) k) v → movable_of (movable sheet.nodes) v ≡ true → SomeMove B k
      go ih stop e w o s = true_false false s refl
      go ih (tell c) e w o s =
          found (record { label = least_store sheet.rules; target = record { store = join sheet.rules d c; threads = sort_up B } })
          (moves_of_tell sheet low d B k l c e) (Memᴰ.head refl)
      go ih (ask c q) e w o s =
          let x = label_below sheet d c c w.0 (join_right sheet.rules d c) in
          let f : ℕ → Move =
          λ a. record { label = a; target = record { store = join sheet.rules d a; threads = sort_up (opened sheet.nodes q ++ B) } } in
          found (f x.0) (moves_of_ask sheet low d B k l c q e) (map_mem f x.1)
      go ih (both p q) e w o s =
          let C : List ℕ = sort_up (opened sheet.nodes q ++ B) in
          let D : List ℕ = sort_up (opened sheet.nodes p ++ B) in
          one_of C D p q (moves_of_both sheet low d B k l p q e)
          (λ t. ih p (omega (arith, o.0.lower)) o.0.inside t C) (λ t. ih q (omega (arith, o.1.lower)) o.1.inside t D)
          (movable sheet.nodes p) refl s
      go ih (either p q) e w o s =
          one_of B B p q (moves_of_either sheet low d B k l p q e)
          (λ t. ih p (omega (arith, o.0.lower)) o.0.inside t B) (λ t. ih q (omega (arith, o.1.lower)) o.1.inside t B)
          (movable sheet.nodes p) refl s

  pub movable_node : (B : List ℕ) (k : ℕ) → k < length sheet.nodes → movable sheet.nodes k ≡ true
      → (m : Move) × Memᴰ m (node_moves sheet d B k) × (length B ≤ length m.target.threads)
  movable_node B k l h =
      let x = movable_below (suc (rank_of k)) k (omega arith) l h B in
      (x.0, x.1, node_move_threads sheet d B k x.0 x.1)
