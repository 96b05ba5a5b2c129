-- Laws of moves. One law carries a step of a node from one store to another; the rest are instances: a move's label is a
-- constraint that its target has, a move is a reduction once its label is added (sound), a reduction stays one when more is
-- added, and a reduction with a constraint added comes from a move with a label below it (complete).
use Rattle.std.specs.Prelude.{◌≡◌, length}
use Rattle.std.proofs.Math.Path.{refl, ap, subst}
use Rattle.std.proofs.Common.{sym, ap₂, ◌∙◌}
use Rattle.std.proofs.Math.Logic.{⊎_elim}
use mathlib.Core.List.Memᴰ
use mathlib.Core.List.{List, [], ◌∷◌, ◌++◌, map, Memᴰ}
use Prim.Native.Nat.{ℕ, zero, suc, ◌^◌, ◌<◌}
use Rattle.sheet_laws.specs.Members.{mem_map, map_mem}
use Rattle.moves.specs.Lists.{sort_up}
use Rattle.sheet_laws.specs.AscendingLaws.{arrange_keeps, arrange_only}
use Rattle.moves.specs.FactSets.{Within}
use Rattle.sheet_laws.specs.FactSetLaws.{within_trans}
use Rattle.sheet_laws.specs.Stores.{Closed, Constraint, conclusions, join, least_store}
use Rattle.sheet_laws.specs.StoreLaws.{join_left, join_right, join_least, join_closed, join_comm, join_assoc, join_swap, within_join, least_within}
use Rattle.moves.specs.Sheet.{Node, stop, tell, ask, both, either, Configuration, Sheet, node_of, opened}
use Rattle.moves.specs.Orders.{Move}
use Rattle.move_laws.specs.OrderLaws.{move_order}
use Rattle.moves.specs.Moves.{Step, labels, beside, steps_of, steps_within, steps, move_of, moves_from, moves, Moves, Reduces, add}
use Rattle.move_laws.specs.NodeParts.{both_has_first, both_has_second, both_has_only, either_has_first, either_has_second, either_has_only}
use Rattle.move_laws.specs.LabelLaws.{label_constraint, label_makes_true, label_below, label_least, least_constraint}

-- ---- from a step at store d to one at store e
-- Suppose each step of a tell and of an ask at d that is Good has a partner at e. Then so has each Good step of any node, with
-- the same threads.
module _ (sheet : Sheet) (d e : ℕ) (Good : ℕ → ℕ → Type 0) (Partner : ℕ → ℕ → ℕ → ℕ → Type 0)
    (tells : (k c : ℕ) → node_of sheet.nodes k ≡ tell c → Good (least_store sheet.rules) (join sheet.rules d c)
    → Partner (least_store sheet.rules) (join sheet.rules d c) (least_store sheet.rules) (join sheet.rules e c))
    (asks : (c a : ℕ) → Memᴰ a (labels sheet d c) → Good a (join sheet.rules d a)
    → (b : ℕ) × Memᴰ b (labels sheet e c) × Partner a (join sheet.rules d a) b (join sheet.rules e b)) where
  -- a partner of the step m among the steps at e
  abbrev Found : List Step → Step → Type 0
  Found at-e m = (t : Step) × Memᴰ t at-e × (t.threads ≡ m.threads) × Partner m.label m.store t.label t.store

  found_more : {xs ys : List Step} {m : Step} → ((t : Step) → Memᴰ t xs → Memᴰ t ys) → Found xs m → Found ys m
  found_more f x = (x.0, f x.0 x.1, x.2, x.3)

  -- a partner of a step with threads beside it
  found_beside : (ts : List ℕ) (xs ys : List Step) {m : Step} → ((s : Step) → Memᴰ s xs → Good s.label s.store → Found ys s)
      → Memᴰ m (map (beside ts) xs) → Good m.label m.store → Found (map (beside ts) ys) m
  found_beside ts xs ys {m} f k g =
      let x = mem_map (beside ts) xs k in
      let y = f x.0 x.1 (subst (λ (s : Step). Good s.label s.store) x.2 g) in (
        beside ts y.0,
        map_mem (beside ts) y.1,
        ap (λ (l : List ℕ). l ++ ts) y.2 ∙ ap (λ (s : Step). s.threads) (sym x.2),
        subst (λ (s : Step). Partner s.label s.store y.0.label y.0.store) (sym x.2) y.3,
      )

  carry : (n k : ℕ) {m : Step} → Memᴰ m (steps_within n sheet d k) → Good m.label m.store → Found (steps_within n sheet e k) m
  unfolding steps_within
  carry zero k h g = absurd (Memᴰ.not-nil h)
  carry (suc n) k {m} h g = go (λ j s x y. carry n j {m = s} x y) (node_of sheet.nodes k) refl h
    where
      go : ((j : ℕ) (s : Step) → Memᴰ s (steps_within n sheet d j) → Good s.label s.store → Found (steps_within n sheet e j) s)
          → (v : Node) → node_of sheet.nodes k ≡ v → Memᴰ m (steps_of sheet d (steps_within n sheet d) v)
          → Found (steps_of sheet e (steps_within n sheet e) v) m
      go ih stop q x = absurd (Memᴰ.not-nil x)
      go ih (tell c) q x =
          let i = Memᴰ.eq_of_singleton x in (
            record { label = least_store sheet.rules; store = join sheet.rules e c; threads = [] },
            Memᴰ.head refl,
            ap (λ (s : Step). s.threads) (sym i),
            subst (λ (s : Step). Partner s.label s.store (least_store sheet.rules) (join sheet.rules e c)) (sym i)
                (tells k c q (subst (λ (s : Step). Good s.label s.store) i g)),
          )
      go ih (ask c r) q x =
          let y = mem_map (λ (a : ℕ). record { label = a; store = join sheet.rules d a; threads = opened sheet.nodes r }) (labels sheet d c) x in
          let z = asks c y.0 y.1 (subst (λ (s : Step). Good s.label s.store) y.2 g) in (
            record { label = z.0; store = join sheet.rules e z.0; threads = opened sheet.nodes r },
            map_mem (λ (a : ℕ). record { label = a; store = join sheet.rules e a; threads = opened sheet.nodes r }) z.1,
            ap (λ (s : Step). s.threads) (sym y.2),
            subst (λ (s : Step). Partner s.label s.store z.0 (join sheet.rules e z.0)) (sym y.2) z.2,
          )
      go ih (both p r) q x =
          ⊎_elim
          (λ (y : Memᴰ m (map (beside (opened sheet.nodes r)) (steps_within n sheet d p))).
          found_more (λ t z. both_has_first sheet e (steps_within n sheet e) p r z)
          (found_beside (opened sheet.nodes r) (steps_within n sheet d p) (steps_within n sheet e p) (ih p) y g))
          (λ (y : Memᴰ m (map (beside (opened sheet.nodes p)) (steps_within n sheet d r))).
          found_more (λ t z. both_has_second sheet e (steps_within n sheet e) p r z)
          (found_beside (opened sheet.nodes p) (steps_within n sheet d r) (steps_within n sheet e r) (ih r) y g))
          (both_has_only sheet d (steps_within n sheet d) p r x)
      go ih (either p r) q x =
          ⊎_elim
          (λ (y : Memᴰ m (steps_within n sheet d p)). found_more (λ t z. either_has_first sheet e (steps_within n sheet e) p r z) (ih p m y g))
          (λ (y : Memᴰ m (steps_within n sheet d r)). found_more (λ t z. either_has_second sheet e (steps_within n sheet e) p r z) (ih r m y g))
          (either_has_only sheet d (steps_within n sheet d) p r x)

  -- the same for moves: one thread's step, the rest as before
  carry_from : (passed ts : List ℕ) {m : Move} → Memᴰ m (moves_from sheet d passed ts) → Good m.label m.target.store
      → (t : Move) × Memᴰ t (moves_from sheet e passed ts) × (t.target.threads ≡ m.target.threads)
      × Partner m.label m.target.store t.label t.target.store
  carry_from passed [] h g = absurd (Memᴰ.not-nil h)
  carry_from passed (t ∷ ts) {m} h g =
      ⊎_elim
      (λ (x : Memᴰ m (map (move_of (passed ++ ts)) (steps sheet d t))).
      let y = mem_map (move_of (passed ++ ts)) (steps sheet d t) x in
      let z = carry (length sheet.nodes) t y.1 (subst (λ (s : Move). Good s.label s.target.store) y.2 g) in (
        move_of (passed ++ ts) z.0,
        Memᴰ.append_left (moves_from sheet e (passed ++ (t ∷ [])) ts) (map_mem (move_of (passed ++ ts)) z.1),
        ap (λ (l : List ℕ). sort_up (l ++ (passed ++ ts))) z.2 ∙ ap (λ (s : Move). s.target.threads) (sym y.2),
        subst (λ (s : Move). Partner s.label s.target.store z.0.label z.0.store) (sym y.2) z.3,
      ))
      (λ (x : Memᴰ m (moves_from sheet d (passed ++ (t ∷ [])) ts)).
      let y = carry_from (passed ++ (t ∷ [])) ts x g in
      (y.0, Memᴰ.append_right (map (move_of (passed ++ ts)) (steps sheet e t)) y.1, y.2, y.3))
      (Memᴰ.append_cases (map (move_of (passed ++ ts)) (steps sheet d t)) h)

  pub carry_move : (ts : List ℕ) (a : ℕ) (t : Configuration) → Moves sheet (record { store = d; threads = ts }) a t → Good a t.store
      → (b : ℕ) × (u : Configuration) × Moves sheet (record { store = e; threads = ts }) b u × (u.threads ≡ t.threads) × Partner a t.store b u.store
  unfolding moves
  carry_move ts a t h g =
      let x = carry_from [] ts (arrange_only move_order (moves_from sheet d [] ts) h) g in
      (x.0.label, x.0.target, arrange_keeps move_order (moves_from sheet e [] ts) x.1, x.2, x.3)

module _ (sheet : Sheet) (fit : conclusions sheet.rules < 2 ^ sheet.facts) where
  abbrev J : ℕ → ℕ → ℕ
  J = join sheet.rules

  abbrev least : ℕ
  least = least_store sheet.rules

  -- joining the least store to a closed set changes nothing
  join_least_store : (a : ℕ) → Closed sheet.rules a → J a least ≡ a
  join_least_store a c = join_comm sheet.rules a least ∙ within_join sheet.rules c (least_within sheet.rules a c)

  -- ---- a move's label is a constraint, and its target's store is closed and has it
  pub record Labelled (a s : ℕ) : Type 0 where
    pub constraint : Constraint sheet.facts sheet.rules a
    pub closed : Closed sheet.rules s
    pub inside : Within a s

  pub move_labelled : (p : Configuration) (a : ℕ) (t : Configuration) → Moves sheet p a t → Labelled a t.store
  move_labelled p a t h =
      (carry_move sheet p.store p.store (λ _ _. Unit {0}) (λ a s _ _. Labelled a s)
      (λ k c q _. record {
        constraint = least_constraint sheet fit;
        closed = join_closed sheet.rules p.store c;
        inside = least_within sheet.rules (J p.store c) (join_closed sheet.rules p.store c);
      })
      (λ c a m _. (
        a,
        m,
        record {
          constraint = label_constraint sheet p.store c m;
          closed = join_closed sheet.rules p.store a;
          inside = join_right sheet.rules p.store a;
        },
      ))
      p.threads a t h tt).4

  -- adding a move's label to its target changes nothing
  pub move_has_label : (p : Configuration) (a : ℕ) (t : Configuration) → Moves sheet p a t → add sheet a t ≡ t
  move_has_label p a t h =
      let l = move_labelled p a t h in
      ap (λ (s : ℕ). record { store = s; threads = t.threads }) (within_join sheet.rules l.closed l.inside)

  -- ---- sound: a move with label a is a reduction once a is added
  join_inside : (a d c : ℕ) → Within a (J d c) → J (J a d) c ≡ J d c
  join_inside a d c h =
      join_assoc sheet.rules a d c ∙ within_join sheet.rules (join_closed sheet.rules d c) h

  pub move_sound : (p : Configuration) (a : ℕ) (t : Configuration) → Moves sheet p a t → Reduces sheet (add sheet a p) t
  move_sound p a t h =
      let d : ℕ = p.store in
      let x = carry_move sheet d (J a d) (λ l _. l ≡ a) (λ l s m u. (m ≡ least) × (u ≡ s))
      (λ k c q g. (refl, join_inside a d c (subst (λ (l : ℕ). Within l (J d c)) g (least_within sheet.rules (J d c) (join_closed sheet.rules d c)))))
      (λ c l m g.
      let w : Within c (J a d) = subst (λ (s : ℕ). Within c s) (ap (J d) g ∙ join_comm sheet.rules d a) (label_makes_true sheet d c m) in (
        least,
        label_least sheet fit (J a d) c w,
        (refl, join_least_store (J a d) (join_closed sheet.rules a d) ∙ join_comm sheet.rules a d ∙ ap (J d) (sym g)),
      ))
      p.threads a t h refl in
      subst (λ (m : Move). Memᴰ m (moves sheet (add sheet a p)))
      (ap₂ (λ (l : ℕ) (u : Configuration). record { label = l; target = u }) x.4.0
      (ap₂ (λ (s : ℕ) (ts : List ℕ). record { store = s; threads = ts }) x.4.1 x.3))
      x.2

  -- ---- a reduction stays one when more is added
  pub reduces_more : (p t : Configuration) (e : ℕ) → Reduces sheet p t → Reduces sheet (add sheet e p) (add sheet e t)
  reduces_more p t e h =
      let d : ℕ = p.store in
      let x = carry_move sheet d (J e d) (λ l _. l ≡ least) (λ l s m u. (m ≡ least) × (u ≡ J e s))
      (λ k c q g. (refl, join_assoc sheet.rules e d c))
      (λ c l m g.
      let w : Within c (J e d) =
      within_trans (subst (λ (b : ℕ). Within c (J d b)) g (label_makes_true sheet d c m))
      (join_least sheet.rules d least (J e d) (join_closed sheet.rules e d) (join_right sheet.rules e d) (least_within sheet.rules (J e d) (join_closed sheet.rules e d))) in
      (least, label_least sheet fit (J e d) c w, (refl, join_assoc sheet.rules e d least ∙ ap (λ (b : ℕ). J e (J d b)) (sym g))))
      p.threads least t h refl in
      subst (λ (m : Move). Memᴰ m (moves sheet (add sheet e p)))
      (ap₂ (λ (l : ℕ) (u : Configuration). record { label = l; target = u }) x.4.0
      (ap₂ (λ (s : ℕ) (ts : List ℕ). record { store = s; threads = ts }) x.4.1 x.3))
      x.2

  -- ---- complete: a reduction with e added comes from a move with a label below e
  pub move_complete : (p t : Configuration) (e : ℕ) → Constraint sheet.facts sheet.rules e → Reduces sheet (add sheet e p) t
      → (a : ℕ) × (u : Configuration) × (join sheet.rules a e ≡ e) × Moves sheet p a u × (t ≡ add sheet e u)
  move_complete p t e ce h =
      let d : ℕ = p.store in
      let x = carry_move sheet (J e d) d (λ l _. l ≡ least) (λ l s m u. (J m e ≡ e) × (s ≡ J e u))
      (λ k c q g. (within_join sheet.rules ce.closed (least_within sheet.rules e ce.closed), join_assoc sheet.rules e d c))
      (λ c l m g.
      let w : Within c (J d e) =
      subst (λ (s : ℕ). Within c s) (ap (J (J e d)) g ∙ join_least_store (J e d) (join_closed sheet.rules e d) ∙ join_comm sheet.rules e d)
      (label_makes_true sheet (J e d) c m) in
      let y = label_below sheet d c e ce w in (
        y.0,
        y.1,
        (
          within_join sheet.rules ce.closed y.2,
          ap (J (J e d)) g ∙ join_least_store (J e d) (join_closed sheet.rules e d)
              ∙ sym (ap (J e) (join_comm sheet.rules d y.0) ∙ join_swap sheet.rules e y.0 d
              ∙ within_join sheet.rules (join_closed sheet.rules e d) (within_trans y.2 (join_left sheet.rules e d))),
        ),
      ))
      p.threads least t h refl in (
        x.0,
        x.1,
        x.4.0,
        x.2,
        ap₂ (λ (s : ℕ) (ts : List ℕ). record { store = s; threads = ts }) x.4.1 (sym x.3),
      )

  -- ---- adding twice is adding the join
  pub add_add : (a b : ℕ) (p : Configuration) → add sheet a (add sheet b p) ≡ add sheet (join sheet.rules a b) p
  add_add a b p = ap (λ (s : ℕ). record { store = s; threads = p.threads }) (sym (join_assoc sheet.rules a b p.store))
