-- The moves of a well-formed sheet obey the laws that the theorems ask for.
use Rattle.std.specs.Prelude.{◌≡◌, refl, length, ltb, Bool, true, false}
use Rattle.std.proofs.Common.{sym, ap, ◌∙◌, ⊎_elim, arith, pow_pos, ltb-true, ltb-false}
use Rattle.std.proofs.Math.Path.{subst}
use mathlib.Core.List.Memᴰ
use mathlib.Core.List.{List, [], ◌∷◌, ◌++◌, map, Memᴰ}
use Prim.Native.Nat.{ℕ, zero, suc, ◌^◌, ◌<◌}
use Rattle.std.proofs.Math.Decide.{ℕ_discrete}
use Rattle.std.specs.Int.Bits.{bit_or}
use Rattle.std.proofs.lemmas.Nat.{or_lt}
use Rattle.std.proofs.Math.ListN.{get_or-eq_default}
use Rattle.move_laws.specs.Members.{mem_map}
use Rattle.move_laws.specs.TestLaws.{test_dec, not_dec}
use Rattle.move_laws.specs.AscendingLaws.{sort_up_only, sort_up_not_falling, arrange_only}
use Rattle.move_laws.specs.FactSets.{Within}
use Rattle.move_laws.specs.FactSetLaws.{within_refl, within_trans, within_antisym, within_le}
use Rattle.move_laws.specs.Stores.{Constraint, conclusions, includes, join}
use Rattle.move_laws.specs.StoreLaws.{conclusions_lt, closure_lt, join_closed, join_left, join_swap, within_join, join_within, least_within, includes_within, within_includes}
use Rattle.move_laws.specs.Sheet.{Node, stop, tell, ask, both, either, Configuration, Sheet, node_of, opened}
use Rattle.move_laws.specs.WellFormed.{Process, OfSheet, NodeFits, WellFormed}
use Rattle.move_laws.specs.OpeningLaws.{opened_opens}
use Rattle.move_laws.specs.Orders.{Move}
use Rattle.move_laws.specs.OrderLaws.{move_order}
use Rattle.move_laws.specs.Moves.{Step, labels, beside, steps_of, steps_within, steps, move_of, moves_from, moves, Moves}
use Rattle.move_laws.specs.LabelLaws.{label_constraint, least_constraint}
use Rattle.move_laws.specs.MoveLaws.{carry_move, move_labelled, move_has_label, move_sound, reduces_more, move_complete, add_add}
use Rattle.refinement_laws.specs.LawfulMoves.{Lawful}
use Rattle.comparison.specs.SheetTransitions.{transitions}

module _ (sheet : Sheet) (wf : WellFormed sheet) where
  pub conclusions_fit : conclusions sheet.rules < 2 ^ sheet.facts
  conclusions_fit = conclusions_lt sheet.rules sheet.facts (λ r m. (wf.rules_fit r m).conclusion) (pow_pos sheet.facts)

  pub join_constraint : (a b : ℕ) → Constraint sheet.facts sheet.rules a → Constraint sheet.facts sheet.rules b
      → Constraint sheet.facts sheet.rules (join sheet.rules a b)
  join_constraint a b ca cb =
      record { closed = join_closed sheet.rules a b; facts = closure_lt sheet.rules sheet.facts (bit_or a b) (or_lt sheet.facts a b ca.facts cb.facts) conclusions_fit }

  -- ---- threads after a step open to themselves
  abbrev SelfOpening : List ℕ → Type 0
  SelfOpening ts = (k : ℕ) → Memᴰ k ts → opened sheet.nodes k ≡ k ∷ []

  opened_self : (k : ℕ) → SelfOpening (opened sheet.nodes k)
  opened_self k j m = opened_opens sheet.nodes k m

  self_append : (xs ys : List ℕ) → SelfOpening xs → SelfOpening ys → SelfOpening (xs ++ ys)
  self_append xs ys f g k m = ⊎_elim (λ (x : Memᴰ k xs). f k x) (λ (y : Memᴰ k ys). g k y) (Memᴰ.append_cases xs m)

  steps_self : (n d k : ℕ) {m : Step} → Memᴰ m (steps_within n sheet d k) → SelfOpening m.threads
  unfolding steps_within
  steps_self zero d k h = absurd (Memᴰ.not-nil h)
  steps_self (suc n) d k {m} h = go (λ j s x. steps_self n d j {m = s} x) (node_of sheet.nodes k) h
    where
      besides : (ts : List ℕ) (xs : List Step) → SelfOpening ts → ((s : Step) → Memᴰ s xs → SelfOpening s.threads)
          → Memᴰ m (map (beside ts) xs) → SelfOpening m.threads
      besides ts xs f g x =
          let y = mem_map (beside ts) xs x in
          subst (λ (s : Step). SelfOpening s.threads) (sym y.2) (self_append y.0.threads ts (g y.0 y.1) f)

      go : ((j : ℕ) (s : Step) → Memᴰ s (steps_within n sheet d j) → SelfOpening s.threads)
          → (v : Node) → Memᴰ m (steps_of sheet d (steps_within n sheet d) v) → SelfOpening m.threads
      go ih stop x = absurd (Memᴰ.not-nil x)
      go ih (tell c) x = subst (λ (s : Step). SelfOpening s.threads) (sym (Memᴰ.eq_of_singleton x)) (λ k y. absurd (Memᴰ.not-nil y))
      go ih (ask c r) x =
          let y = mem_map (λ (a : ℕ). record { label = a; store = join sheet.rules d a; threads = opened sheet.nodes r }) (labels sheet d c) x in
          subst (λ (s : Step). SelfOpening s.threads) (sym y.2) (opened_self r)
      go ih (both p r) x =
          ⊎_elim
          (λ (y : Memᴰ m (map (beside (opened sheet.nodes r)) (steps_within n sheet d p))). besides (opened sheet.nodes r) (steps_within n sheet d p) (opened_self r) (ih p) y)
          (λ (y : Memᴰ m (map (beside (opened sheet.nodes p)) (steps_within n sheet d r))). besides (opened sheet.nodes p) (steps_within n sheet d r) (opened_self p) (ih r) y)
          (Memᴰ.append_cases (map (beside (opened sheet.nodes r)) (steps_within n sheet d p)) x)
      go ih (either p r) x =
          ⊎_elim (λ (y : Memᴰ m (steps_within n sheet d p)). ih p m y) (λ (y : Memᴰ m (steps_within n sheet d r)). ih r m y)
          (Memᴰ.append_cases (steps_within n sheet d p) x)

  moves_process : (d : ℕ) (passed ts : List ℕ) → SelfOpening passed → SelfOpening ts → {m : Move} → Memᴰ m (moves_from sheet d passed ts)
      → Process sheet.nodes m.target.threads
  moves_process d passed [] f g h = absurd (Memᴰ.not-nil h)
  moves_process d passed (t ∷ ts) f g {m} h =
      ⊎_elim
      (λ (x : Memᴰ m (map (move_of (passed ++ ts)) (steps sheet d t))).
      let y = mem_map (move_of (passed ++ ts)) (steps sheet d t) x in
      subst (λ (s : Move). Process sheet.nodes s.target.threads) (sym y.2)
      (record {
        ascending = sort_up_not_falling (y.0.threads ++ (passed ++ ts));
        self_opening = λ k i.
            self_append y.0.threads (passed ++ ts) (steps_self (length sheet.nodes) d t y.1)
            (self_append passed ts f (λ j e. g j (Memᴰ.tail e))) k (sort_up_only (y.0.threads ++ (passed ++ ts)) i);
      }))
      (λ (x : Memᴰ m (moves_from sheet d (passed ++ (t ∷ [])) ts)).
      moves_process d (passed ++ (t ∷ [])) ts
      (self_append passed (t ∷ []) f (λ j e. g j (Memᴰ.head (Memᴰ.eq_of_singleton e)))) (λ j e. g j (Memᴰ.tail e)) x)
      (Memᴰ.append_cases (map (move_of (passed ++ ts)) (steps sheet d t)) h)

  -- ---- the store after a move is a constraint
  tell_constraint : (k c : ℕ) → node_of sheet.nodes k ≡ tell c → Constraint sheet.facts sheet.rules c
  tell_constraint k c e = go (ltb k (length sheet.nodes)) refl
    where
      tell_not_stop : stop ≡ tell c → ⊥
      tell_not_stop q = let z : ◌≡◌ {A = ℕ} 0 1 = cc in omega arith

      go : (t : Bool) → ltb k (length sheet.nodes) ≡ t → Constraint sheet.facts sheet.rules c
      go true q =
          subst (λ (v : Node). NodeFits sheet.facts sheet.rules (length sheet.nodes) k v) e (wf.nodes_fit k (ltb-true k (length sheet.nodes) q))
      go false q =
          absurd (tell_not_stop (sym (get_or-eq_default sheet.nodes stop (ltb-false k (length sheet.nodes) q)) ∙ e))

  store_after : (p : Configuration) (a : ℕ) (t : Configuration) → Constraint sheet.facts sheet.rules p.store → Moves sheet p a t
      → Constraint sheet.facts sheet.rules t.store
  store_after p a t cp h =
      (carry_move sheet p.store p.store (λ _ _. Unit {0}) (λ a s _ _. Constraint sheet.facts sheet.rules s)
      (λ k c q _. join_constraint p.store c cp (tell_constraint k c q))
      (λ c a m _. (a, m, join_constraint p.store a cp (label_constraint sheet p.store c m)))
      p.threads a t h tt).4

  pub move_of_lem : (p : Configuration) (a : ℕ) (t : Configuration) → OfSheet sheet p → Moves sheet p a t → OfSheet sheet t
  unfolding moves
  move_of_lem p a t o h = record {
    store = store_after p a t o.store h;
    process =
        moves_process p.store [] p.threads (λ k m. absurd (Memᴰ.not-nil m)) o.process.self_opening
        (arrange_only move_order (moves_from sheet p.store [] p.threads) h);
  }

  -- ---- decisions over the moves
  module _ (p : Configuration) (Q : ℕ → Configuration → Type 0) (dec : (a : ℕ) (t : Configuration) → Dec (Q a t)) where
    some_in : (ms : List Move) → Dec ((m : Move) × Memᴰ m ms × Q m.label m.target)
    some_in [] = no (λ x. Memᴰ.not-nil x.1)
    some_in (m ∷ ms) = go (dec m.label m.target) (some_in ms)
      where
        go : Dec (Q m.label m.target) → Dec ((k : Move) × Memᴰ k ms × Q k.label k.target)
            → Dec ((k : Move) × Memᴰ k (m ∷ ms) × Q k.label k.target)
        go (yes h) d = yes (m, Memᴰ.head refl, h)
        go (no h) (yes x) = yes (x.0, Memᴰ.tail x.1, x.2)
        go (no h) (no f) =
            no (λ x. ⊎_elim (λ (e : x.0 ≡ m). h (subst (λ (k : Move). Q k.label k.target) e x.2))
            (λ (i : Memᴰ x.0 ms). f (x.0, i, x.2)) (Memᴰ.cases_cons x.1))

    pub some_move : Dec ((a : ℕ) × (t : Configuration) × Moves sheet p a t × Q a t)
    some_move = go (some_in (moves sheet p))
      where
        go : Dec ((m : Move) × Memᴰ m (moves sheet p) × Q m.label m.target) → Dec ((a : ℕ) × (t : Configuration) × Moves sheet p a t × Q a t)
        go (yes x) = yes (x.0.label, x.0.target, x.1, x.2)
        go (no f) = no (λ x. f (record { label = x.0; target = x.1 }, x.2, x.3))

  pub every_move : (p : Configuration) (Q : ℕ → Configuration → Type 0) → ((a : ℕ) (t : Configuration) → Dec (Q a t))
      → Dec ((a : ℕ) (t : Configuration) → Moves sheet p a t → Q a t)
  every_move p Q dec = go (some_move p (λ a t. Q a t → ⊥) (λ a t. not_dec (dec a t)))
    where
      sure : {A : Type 0} → Dec A → ((A → ⊥) → ⊥) → A
      sure (yes a) f = a
      sure (no n) f = absurd (f n)

      go : Dec ((a : ℕ) × (t : Configuration) × Moves sheet p a t × (Q a t → ⊥)) → Dec ((a : ℕ) (t : Configuration) → Moves sheet p a t → Q a t)
      go (yes x) = no (λ f. x.3 (f x.0 x.1 x.2))
      go (no f) = yes (λ a t m. sure (dec a t) (λ n. f (a, t, m, n)))

  pub within_dec : (a b : ℕ) → Dec (Within a b)
  within_dec a b = test_dec (includes b a) (includes_within b a) within_includes

  -- the moves of a well-formed sheet obey every law
  pub lawful : Lawful (transitions sheet)
  lawful = record {
    join = join sheet.rules;
    join_constraint = join_constraint;
    least_constraint = least_constraint sheet conclusions_fit;
    below_refl = λ a c. within_refl a;
    below_trans = λ a b c h k. within_trans h k;
    below_antisym = λ a b h k. within_antisym h k;
    rank = λ a. a;
    rank_below = λ a b h k. omega (arith, within_le h, k);
    add_add = add_add sheet conclusions_fit;
    add_under = λ e b p h.
        ap (λ (s : ℕ). record { store = s; threads = p.threads })
        (join_swap sheet.rules e b p.store
        ∙ within_join sheet.rules (join_closed sheet.rules e p.store) (within_trans h (join_left sheet.rules e p.store)));
    add_least = λ p o.
        ap (λ (s : ℕ). record { store = s; threads = p.threads }) (within_join sheet.rules o.store.closed (least_within sheet.rules p.store o.store.closed));
    of_add = λ e p c o. record { store = join_constraint e p.store c o.store; process = o.process };
    barbs_refl = λ p. refl;
    barbs_sym = λ p q h. sym h;
    barbs_trans = λ p q r h k. h ∙ k;
    barbs_add = λ e p q c h. ap (join sheet.rules e) h;
    move_constraint = λ p a t m. (move_labelled sheet conclusions_fit p a t m).constraint;
    move_has_label = move_has_label sheet conclusions_fit;
    move_of_lem = move_of_lem;
    move_sound = move_sound sheet conclusions_fit;
    reduces_more = λ p t e c m. reduces_more sheet conclusions_fit p t e m;
    move_complete = λ p t e c m.
        let x = move_complete sheet conclusions_fit p t e c m in
        (x.0, x.1, join_within sheet.rules x.0 e x.2, x.3, x.4);
    same_label_lem = ℕ_discrete;
    below_dec = within_dec;
    barbs_dec = λ p q. ℕ_discrete p.store q.store;
    some_move = some_move;
    every_move = every_move;
  }
