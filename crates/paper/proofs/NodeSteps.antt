-- The paper's transitions of the call of a node are the steps that document 01 gives the node.
use Rattle.std.specs.Prelude.{◌≡◌, refl, ◌⊎◌, length}
use Rattle.std.proofs.Common.{sym, subst, inl, inr, ⊎_elim, arith}
use mathlib.Core.List.Memᴰ
use mathlib.Core.List.{List, [], ◌++◌, map, Memᴰ}
use Prim.Native.Nat.{ℕ, zero, suc, ◌<◌}
use Rattle.comparison_laws.specs.Members.{mem_map, map_mem}
use Rattle.comparison_laws.specs.Stores.{join, least_store}
use Rattle.comparison_laws.specs.Sheet as sheet
use Rattle.comparison_laws.specs.Sheet.{Node, Sheet, node_of, opened}
use Rattle.comparison_laws.specs.Ranks.{OfParts, Part, Ranked}
use Rattle.comparison_laws.specs.Moves.{Step, labels, beside, steps_of, steps_within}
use Rattle.paper.specs.Terms.{Term, nil, tell, ask, parallel, choice, call, body_of, Opens, opens_nil, opens_call, opens_parallel}
use Rattle.paper.specs.Tables.{Minimal, Transition, LR1, LR2, LR3_left, LR3_right, LR4_left, LR4_right, LR6}
use Rattle.paper.proofs.LabelBridge.{labels_minimal}
use Rattle.paper.proofs.SameThreads.{SameThreads, same_refl, same_trans, same_swap, same_left}

-- a process that may have a transition: any but 0
abbrev pub MayMove : Term → Type 0
MayMove nil = ⊥
MayMove (tell c) = Unit {0}
MayMove (ask c p) = Unit {0}
MayMove (parallel p q) = Unit {0}
MayMove (choice p q) = Unit {0}
MayMove (call k) = Unit {0}

-- ---- what a transition of each kind of process comes from
module _ (s : Sheet) where
  pub no_move : {p p' : Term} {d a d' : ℕ} → Transition s p d a p' d' → MayMove p
  no_move (LR1 c d) = tt
  no_move (LR2 c d a p m) = tt
  no_move (LR3_left r) = tt
  no_move (LR3_right r) = tt
  no_move (LR4_left r) = tt
  no_move (LR4_right r) = tt
  no_move (LR6 r) = tt

  from_tell : {c d a d' : ℕ} {p' : Term} → Transition s (tell c) d a p' d'
      → (a ≡ least_store s.rules) × (p' ≡ nil) × (d' ≡ join s.rules d c)
  from_tell (LR1 c d) = (refl, refl, refl)

  from_ask : {c d a d' : ℕ} {p p' : Term} → Transition s (ask c p) d a p' d' → Minimal s d c a × (p' ≡ p) × (d' ≡ join s.rules d a)
  from_ask (LR2 c d a p m) = (m, refl, refl)

  pub from_parallel : {p q t : Term} {d a d' : ℕ} → Transition s (parallel p q) d a t d'
      → ((p' : Term) × Transition s p d a p' d' × (t ≡ parallel p' q)) ⊎ ((q' : Term) × Transition s q d a q' d' × (t ≡ parallel p q'))
  from_parallel (LR3_left {p' = p'} r) = inl (p', r, refl)
  from_parallel (LR3_right {q' = q'} r) = inr (q', r, refl)

  pub from_choice : {p q t : Term} {d a d' : ℕ} → Transition s (choice p q) d a t d' → Transition s p d a t d' ⊎ Transition s q d a t d'
  from_choice (LR4_left r) = inl r
  from_choice (LR4_right r) = inr r

  pub from_call : {k d a d' : ℕ} {t : Term} → Transition s (call k) d a t d' → Transition s (body_of (node_of s.nodes k)) d a t d'
  from_call (LR6 r) = r

  pub to_call : {k d a d' : ℕ} {t : Term} (v : Node) → node_of s.nodes k ≡ v → Transition s (body_of v) d a t d'
      → Transition s (call k) d a t d'
  to_call {k} {d} {a} {d'} {t} v e r = LR6 (subst (λ (w : Node). Transition s (body_of w) d a t d') (sym e) r)

module _ (s : Sheet) (d : ℕ) where
  abbrev pub opens_to : ℕ → List ℕ
  opens_to = opened s.nodes

  -- ---- a node's steps
  -- the transition into t with label a and store d' is one of these steps
  pub record Stepped (ms : List Step) (a : ℕ) (t : Term) (d' : ℕ) : Type 0 where
    pub step : Step
    pub among : Memᴰ step ms
    pub label : step.label ≡ a
    pub store : step.store ≡ d'
    pub threads : List ℕ
    pub opens : Opens s.nodes t threads
    pub same : SameThreads threads step.threads

  stepped_more : {xs ys : List Step} {a d' : ℕ} {t : Term} → ((m : Step) → Memᴰ m xs → Memᴰ m ys) → Stepped xs a t d'
      → Stepped ys a t d'
  stepped_more f x = record {
    step = x.step;
    among = f x.step x.among;
    label = x.label;
    store = x.store;
    threads = x.threads;
    opens = x.opens;
    same = x.same;
  }

  body_stepped : (rank : ℕ → ℕ) (k : ℕ) (inner : ℕ → List Step) (v : Node) → OfParts (Part rank (length s.nodes) k) v
      → ((j a d' : ℕ) (t : Term) → rank j < rank k → Transition s (call j) d a t d' → Stepped (inner j) a t d')
      → (a d' : ℕ) (t : Term) → Transition s (body_of v) d a t d' → Stepped (steps_of s d inner v) a t d'
  body_stepped rank k inner sheet.stop low ih a d' t r = absurd (no_move s r)
  body_stepped rank k inner (sheet.tell c) low ih a d' t r =
      let x = from_tell s r in
      record {
        step = record { label = least_store s.rules; store = join s.rules d c; threads = [] };
        among = Memᴰ.head refl;
        label = sym x.0;
        store = sym x.2;
        threads = [];
        opens = subst (λ (u : Term). Opens s.nodes u []) (sym x.1) opens_nil;
        same = same_refl [];
      }
  body_stepped rank k inner (sheet.ask c q) low ih a d' t r =
      let x = from_ask s r in
      record {
        step = record { label = a; store = join s.rules d a; threads = opens_to q };
        among = map_mem (λ (b : ℕ). record { label = b; store = join s.rules d b; threads = opens_to q })
            ((labels_minimal s d c a).1 x.0);
        label = refl;
        store = sym x.2;
        threads = opens_to q;
        opens = subst (λ (u : Term). Opens s.nodes u (opens_to q)) (sym x.1) (opens_call q);
        same = same_refl (opens_to q);
      }
  body_stepped rank k inner (sheet.both p q) low ih a d' t r =
      ⊎_elim
      (λ (x : (p' : Term) × Transition s (call p) d a p' d' × (t ≡ parallel p' (call q))).
      let y = ih p a d' x.0 low.0.lower x.1 in
      record {
        step = beside (opens_to q) y.step;
        among = Memᴰ.append_left (map (beside (opens_to p)) (inner q)) (map_mem (beside (opens_to q)) y.among);
        label = y.label;
        store = y.store;
        threads = y.threads ++ opens_to q;
        opens = subst (λ (u : Term). Opens s.nodes u (y.threads ++ opens_to q)) (sym x.2) (opens_parallel y.opens (opens_call q));
        same = same_left (opens_to q) y.same;
      })
      (λ (x : (q' : Term) × Transition s (call q) d a q' d' × (t ≡ parallel (call p) q')).
      let y = ih q a d' x.0 low.1.lower x.1 in
      record {
        step = beside (opens_to p) y.step;
        among = Memᴰ.append_right (map (beside (opens_to q)) (inner p)) (map_mem (beside (opens_to p)) y.among);
        label = y.label;
        store = y.store;
        threads = opens_to p ++ y.threads;
        opens = subst (λ (u : Term). Opens s.nodes u (opens_to p ++ y.threads)) (sym x.2) (opens_parallel (opens_call p) y.opens);
        same = same_trans (same_swap (opens_to p) y.threads) (same_left (opens_to p) y.same);
      })
      (from_parallel s r)
  body_stepped rank k inner (sheet.either p q) low ih a d' t r =
      ⊎_elim
      (λ (x : Transition s (call p) d a t d'). stepped_more (λ m i. Memᴰ.append_left (inner q) i) (ih p a d' t low.0.lower x))
      (λ (x : Transition s (call q) d a t d'). stepped_more (λ m i. Memᴰ.append_right (inner p) i) (ih q a d' t low.1.lower x))
      (from_choice s r)

  pub call_stepped : {rank : ℕ → ℕ} → Ranked rank s.nodes → (n k a d' : ℕ) (t : Term) → rank k < n → Transition s (call k) d a t d'
      → Stepped (steps_within n s d k) a t d'
  unfolding steps_within
  call_stepped low zero k a d' t l r = absurd (omega arith)
  call_stepped {rank} low (suc n) k a d' t l r =
      body_stepped rank k (steps_within n s d) (node_of s.nodes k) (low.parts k)
      (λ j b e u i x. call_stepped low n j b e u (omega arith) x) a d' t (from_call s r)

  -- ---- and back: each step of a node is a transition of its call
  pub record Performed (p : Term) (m : Step) : Type 0 where
    pub term : Term
    pub transition : Transition s p d m.label term m.store
    pub threads : List ℕ
    pub opens : Opens s.nodes term threads
    pub same : SameThreads threads m.threads

  body_performed : (inner : ℕ → List Step) → ((j : ℕ) (m : Step) → Memᴰ m (inner j) → Performed (call j) m)
      → (v : Node) (m : Step) → Memᴰ m (steps_of s d inner v) → Performed (body_of v) m
  body_performed inner ih sheet.stop m i = absurd (Memᴰ.not-nil i)
  body_performed inner ih (sheet.tell c) m i =
      subst (λ (x : Step). Performed (tell c) x) (sym (Memᴰ.eq_of_singleton i))
      (record { term = nil; transition = LR1 c d; threads = []; opens = opens_nil; same = same_refl [] })
  body_performed inner ih (sheet.ask c q) m i =
      let x = mem_map (λ (a : ℕ). record { label = a; store = join s.rules d a; threads = opens_to q }) (labels s d c) i in
      subst (λ (y : Step). Performed (ask c (call q)) y) (sym x.2)
      (record {
        term = call q;
        transition = LR2 c d x.0 (call q) ((labels_minimal s d c x.0).0 x.1);
        threads = opens_to q;
        opens = opens_call q;
        same = same_refl (opens_to q);
      })
  body_performed inner ih (sheet.both p q) m i =
      ⊎_elim
      (λ (y : Memᴰ m (map (beside (opens_to q)) (inner p))).
      let x = mem_map (beside (opens_to q)) (inner p) y in
      let z = ih p x.0 x.1 in
      subst (λ (w : Step). Performed (parallel (call p) (call q)) w) (sym x.2)
      (record {
        term = parallel z.term (call q);
        transition = LR3_left z.transition;
        threads = z.threads ++ opens_to q;
        opens = opens_parallel z.opens (opens_call q);
        same = same_left (opens_to q) z.same;
      }))
      (λ (y : Memᴰ m (map (beside (opens_to p)) (inner q))).
      let x = mem_map (beside (opens_to p)) (inner q) y in
      let z = ih q x.0 x.1 in
      subst (λ (w : Step). Performed (parallel (call p) (call q)) w) (sym x.2)
      (record {
        term = parallel (call p) z.term;
        transition = LR3_right z.transition;
        threads = opens_to p ++ z.threads;
        opens = opens_parallel (opens_call p) z.opens;
        same = same_trans (same_swap (opens_to p) z.threads) (same_left (opens_to p) z.same);
      }))
      (Memᴰ.append_cases (map (beside (opens_to q)) (inner p)) i)
  body_performed inner ih (sheet.either p q) m i =
      ⊎_elim
      (λ (y : Memᴰ m (inner p)).
      let z = ih p m y in
      record { term = z.term; transition = LR4_left z.transition; threads = z.threads; opens = z.opens; same = z.same })
      (λ (y : Memᴰ m (inner q)).
      let z = ih q m y in
      record { term = z.term; transition = LR4_right z.transition; threads = z.threads; opens = z.opens; same = z.same })
      (Memᴰ.append_cases (inner p) i)

  pub call_performed : (n k : ℕ) (m : Step) → Memᴰ m (steps_within n s d k) → Performed (call k) m
  unfolding steps_within
  call_performed zero k m i = absurd (Memᴰ.not-nil i)
  call_performed (suc n) k m i =
      let z = body_performed (steps_within n s d) (λ j x y. call_performed n j x y) (node_of s.nodes k) m i in
      record { term = z.term; transition = LR6 z.transition; threads = z.threads; opens = z.opens; same = z.same }
