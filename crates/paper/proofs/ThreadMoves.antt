-- A process that opens to threads moves where one of its threads steps and the rest remain, and so does a list of threads.
use Rattle.std.specs.Prelude.{◌≡◌, refl, ◌⊎◌, Bool, true, false, length, ltb}
use Rattle.std.proofs.Common.{sym, ap, subst, inl, inr, ⊎_elim, arith, ltb-true, ltb-false}
use mathlib.Core.List.Memᴰ
use mathlib.Core.List.{List, [], ◌∷◌, ◌++◌, map, append-nil, append_assoc, Memᴰ}
use Prim.Native.Nat.{ℕ, zero, suc, ◌<◌}
use Rattle.std.proofs.Math.ListN.{get_or-eq_default}
use Rattle.comparison_laws.specs.Members.{mem_map, map_mem}
use Rattle.comparison_laws.specs.Sheet as sheet
use Rattle.comparison_laws.specs.Sheet.{Node, Sheet, node_of, opened, opening_of, open_within}
use Rattle.comparison_laws.specs.WellFormed.{WellFormed}
use Rattle.comparison_laws.specs.Ranks.{OfParts, Part, Ranked, rank_of}
use Rattle.comparison_laws.specs.ReadingLaws.{well_formed_ranked}
use Rattle.comparison_laws.specs.Orders.{Move}
use Rattle.comparison_laws.specs.Moves.{Step, steps, move_of, moves_from}
use Rattle.comparison_laws.specs.NestingLaws.{opened_is}
use Rattle.paper.specs.Terms.{Term, parallel, call, body_of, Opens, opens_nil, opens_call, opens_parallel}
use Rattle.paper.specs.Tables.{Transition, LR3_left, LR3_right}
use Rattle.paper.proofs.SameThreads.{SameThreads, same_refl, same_sym, same_trans, same_equal, same_swap, same_left, same_right, same_middle, same_assoc, same_rest}
use Rattle.paper.proofs.NodeSteps.{no_move, from_parallel, from_call, to_call, opens_to, Stepped, call_stepped, call_performed}

module _ (s : Sheet) (d : ℕ) where
  -- ---- a process that opens to threads moves where one of them steps and the rest remain
  pub record ThreadMoved (ts : List ℕ) (a : ℕ) (t : Term) (d' : ℕ) : Type 0 where
    pub thread : ℕ
    pub step : Step
    pub among : Memᴰ step (steps s d thread)
    pub label : step.label ≡ a
    pub store : step.store ≡ d'
    pub rest : List ℕ
    pub taken : SameThreads (thread ∷ rest) ts
    pub threads : List ℕ
    pub opens : Opens s.nodes t threads
    pub same : SameThreads threads (step.threads ++ rest)

  moved_left : {p' q : Term} {ps qs : List ℕ} {a d' : ℕ} → Opens s.nodes q qs → ThreadMoved ps a p' d'
      → ThreadMoved (ps ++ qs) a (parallel p' q) d'
  moved_left {qs = qs} o x = record {
    thread = x.thread;
    step = x.step;
    among = x.among;
    label = x.label;
    store = x.store;
    rest = x.rest ++ qs;
    taken = same_left qs x.taken;
    threads = x.threads ++ qs;
    opens = opens_parallel x.opens o;
    same = same_trans (same_left qs x.same) (same_assoc x.step.threads x.rest qs);
  }

  moved_right : {p q' : Term} {ps qs : List ℕ} {a d' : ℕ} → Opens s.nodes p ps → ThreadMoved qs a q' d'
      → ThreadMoved (ps ++ qs) a (parallel p q') d'
  moved_right {ps = ps} {qs} o x = record {
    thread = x.thread;
    step = x.step;
    among = x.among;
    label = x.label;
    store = x.store;
    rest = x.rest ++ ps;
    taken = same_trans (same_left ps x.taken) (same_swap qs ps);
    threads = ps ++ x.threads;
    opens = opens_parallel o x.opens;
    same = same_trans (same_swap ps x.threads) (same_trans (same_left ps x.same) (same_assoc x.step.threads x.rest ps));
  }

  moved_threads : {xs ys : List ℕ} {a d' : ℕ} {t : Term} → xs ≡ ys → ThreadMoved xs a t d' → ThreadMoved ys a t d'
  moved_threads {a = a} {d'} {t} e x = subst (λ (l : List ℕ). ThreadMoved l a t d') e x

  -- a thread alone
  moved_alone : {k a d' : ℕ} {t : Term} → Stepped s d (steps s d k) a t d' → ThreadMoved (k ∷ []) a t d'
  moved_alone {k} x = record {
    thread = k;
    step = x.step;
    among = x.among;
    label = x.label;
    store = x.store;
    rest = [];
    taken = same_refl (k ∷ []);
    threads = x.threads;
    opens = x.opens;
    same = same_trans x.same (same_equal (sym (append-nil x.step.threads)));
  }

  module _ (wf : WellFormed s) where
    low : Ranked rank_of s.nodes
    low = well_formed_ranked s wf

    call_moved : (n k a d' : ℕ) (t : Term) → rank_of k < n → Transition s (call k) d a t d' → ThreadMoved (opened s.nodes k) a t d'
    call_moved zero k a d' t l r = absurd (omega arith)
    call_moved (suc n) k a d' t l r = within (ltb k (length s.nodes)) refl (λ j b e u i x. call_moved n j b e u i x)
      where
        by_kind : k < length s.nodes → (v : Node) → node_of s.nodes k ≡ v → OfParts (Part rank_of (length s.nodes) k) v
            → ((j b e : ℕ) (u : Term) → rank_of j < n → Transition s (call j) d b u e → ThreadMoved (opened s.nodes j) b u e)
            → ThreadMoved (opening_of (opens_to s d) k v) a t d'
        by_kind i sheet.stop e lv ih = absurd (no_move s (subst (λ (v : Node). Transition s (body_of v) d a t d') e (from_call s r)))
        by_kind i (sheet.tell c) e lv ih = moved_alone (call_stepped s d low (length s.nodes) k a d' t (low.small k i) r)
        by_kind i (sheet.ask c q) e lv ih = moved_alone (call_stepped s d low (length s.nodes) k a d' t (low.small k i) r)
        by_kind i (sheet.both p q) e lv ih =
            ⊎_elim
            (λ (x : (p' : Term) × Transition s (call p) d a p' d' × (t ≡ parallel p' (call q))).
            subst (λ (u : Term). ThreadMoved (opens_to s d p ++ opens_to s d q) a u d') (sym x.2)
            (moved_left (opens_call q) (ih p a d' x.0 (omega (arith, lv.0.lower)) x.1)))
            (λ (x : (q' : Term) × Transition s (call q) d a q' d' × (t ≡ parallel (call p) q')).
            subst (λ (u : Term). ThreadMoved (opens_to s d p ++ opens_to s d q) a u d') (sym x.2)
            (moved_right (opens_call p) (ih q a d' x.0 (omega (arith, lv.1.lower)) x.1)))
            (from_parallel s (subst (λ (v : Node). Transition s (body_of v) d a t d') e (from_call s r)))
        by_kind i (sheet.either p q) e lv ih = moved_alone (call_stepped s d low (length s.nodes) k a d' t (low.small k i) r)

        within : (b : Bool) → ltb k (length s.nodes) ≡ b
            → ((j b e : ℕ) (u : Term) → rank_of j < n → Transition s (call j) d b u e → ThreadMoved (opened s.nodes j) b u e)
            → ThreadMoved (opened s.nodes k) a t d'
        within true e ih =
            let i : k < length s.nodes = ltb-true k (length s.nodes) e in
            moved_threads (sym (opened_is s.nodes low k i)) (by_kind i (node_of s.nodes k) refl (low.parts k) ih)
        within false e ih =
            absurd (no_move s (subst (λ (v : Node). Transition s (body_of v) d a t d')
            (get_or-eq_default s.nodes sheet.stop {n = k} (ltb-false k (length s.nodes) e)) (from_call s r)))

    pub term_moved : {p : Term} {ts : List ℕ} → Opens s.nodes p ts → (a d' : ℕ) (t : Term) → Transition s p d a t d'
        → ThreadMoved ts a t d'
    term_moved opens_nil a d' t r = absurd (no_move s r)
    term_moved (opens_call k) a d' t r = call_moved (suc (rank_of k)) k a d' t (omega arith) r
    term_moved (opens_parallel {p} {q} {ps} {qs} o u) a d' t r =
        joined (λ p' x. term_moved o a d' p' x) (λ q' x. term_moved u a d' q' x)
      where
        joined : ((p' : Term) → Transition s p d a p' d' → ThreadMoved ps a p' d')
            → ((q' : Term) → Transition s q d a q' d' → ThreadMoved qs a q' d') → ThreadMoved (ps ++ qs) a t d'
        joined f g =
            ⊎_elim
            (λ (x : (p' : Term) × Transition s p d a p' d' × (t ≡ parallel p' q)).
            subst (λ (v : Term). ThreadMoved (ps ++ qs) a v d') (sym x.2) (moved_left u (f x.0 x.1)))
            (λ (x : (q' : Term) × Transition s q d a q' d' × (t ≡ parallel p q')).
            subst (λ (v : Term). ThreadMoved (ps ++ qs) a v d') (sym x.2) (moved_right o (g x.0 x.1)))
            (from_parallel s r)

  -- ---- and back: where a thread steps, the process moves
  pub record TermMoves (p : Term) (ts : List ℕ) (k : ℕ) (m : Step) : Type 0 where
    pub term : Term
    pub transition : Transition s p d m.label term m.store
    pub rest : List ℕ
    pub taken : SameThreads (k ∷ rest) ts
    pub threads : List ℕ
    pub opens : Opens s.nodes term threads
    pub same : SameThreads threads (m.threads ++ rest)

  moves_left : {p q : Term} {ps qs : List ℕ} {k : ℕ} {m : Step} → Opens s.nodes q qs → TermMoves p ps k m
      → TermMoves (parallel p q) (ps ++ qs) k m
  moves_left {q = q} {qs = qs} {m = m} o x = record {
    term = parallel x.term q;
    transition = LR3_left x.transition;
    rest = x.rest ++ qs;
    taken = same_left qs x.taken;
    threads = x.threads ++ qs;
    opens = opens_parallel x.opens o;
    same = same_trans (same_left qs x.same) (same_assoc m.threads x.rest qs);
  }

  moves_right : {p q : Term} {ps qs : List ℕ} {k : ℕ} {m : Step} → Opens s.nodes p ps → TermMoves q qs k m
      → TermMoves (parallel p q) (ps ++ qs) k m
  moves_right {p} {ps = ps} {qs} {m = m} o x = record {
    term = parallel p x.term;
    transition = LR3_right x.transition;
    rest = x.rest ++ ps;
    taken = same_trans (same_left ps x.taken) (same_swap qs ps);
    threads = ps ++ x.threads;
    opens = opens_parallel o x.opens;
    same = same_trans (same_swap ps x.threads) (same_trans (same_left ps x.same) (same_assoc m.threads x.rest ps));
  }

  moves_body : {ts : List ℕ} {k j : ℕ} {m : Step} (v : Node) → node_of s.nodes k ≡ v → TermMoves (body_of v) ts j m
      → TermMoves (call k) ts j m
  moves_body v e x = record {
    term = x.term;
    transition = to_call s v e x.transition;
    rest = x.rest;
    taken = x.taken;
    threads = x.threads;
    opens = x.opens;
    same = x.same;
  }

  moves_alone : {k j : ℕ} {m : Step} → Memᴰ j (k ∷ []) → Memᴰ m (steps s d j) → TermMoves (call k) (k ∷ []) j m
  moves_alone {k} {j} {m} i x =
      let e = Memᴰ.eq_of_singleton i in
      let z = call_performed s d (length s.nodes) k m (subst (λ (h : ℕ). Memᴰ m (steps s d h)) e x) in
      record {
        term = z.term;
        transition = z.transition;
        rest = [];
        taken = same_equal (ap (λ (h : ℕ). h ∷ []) e);
        threads = z.threads;
        opens = z.opens;
        same = same_trans z.same (same_equal (sym (append-nil m.threads)));
      }

  none_opened : (k f : ℕ) → node_of s.nodes k ≡ sheet.stop → {j : ℕ} → Memᴰ j (open_within f s.nodes k) → ⊥
  unfolding open_within
  none_opened k zero e i = Memᴰ.not-nil i
  none_opened k (suc f) e {j} i =
      Memᴰ.not-nil (subst (λ (v : Node). Memᴰ j (opening_of (open_within f s.nodes) k v)) e i)

  module _ (wf : WellFormed s) where
    call_moves : (n k j : ℕ) (m : Step) → rank_of k < n → Memᴰ j (opened s.nodes k) → Memᴰ m (steps s d j)
        → TermMoves (call k) (opened s.nodes k) j m
    call_moves zero k j m l i x = absurd (omega arith)
    call_moves (suc n) k j m l i x = within (ltb k (length s.nodes)) refl (λ h o z y. call_moves n h j m o z y)
      where
        by_kind : (v : Node) → node_of s.nodes k ≡ v → OfParts (Part rank_of (length s.nodes) k) v
            → ((h : ℕ) → rank_of h < n → Memᴰ j (opened s.nodes h) → Memᴰ m (steps s d j)
            → TermMoves (call h) (opened s.nodes h) j m)
            → Memᴰ j (opening_of (opens_to s d) k v) → TermMoves (call k) (opening_of (opens_to s d) k v) j m
        by_kind sheet.stop e lv ih o = absurd (Memᴰ.not-nil o)
        by_kind (sheet.tell c) e lv ih o = moves_alone o x
        by_kind (sheet.ask c q) e lv ih o = moves_alone o x
        by_kind (sheet.both p q) e lv ih o =
            moves_body (sheet.both p q) e
            (⊎_elim
            (λ (y : Memᴰ j (opens_to s d p)). moves_left (opens_call q) (ih p (omega (arith, lv.0.lower)) y x))
            (λ (y : Memᴰ j (opens_to s d q)). moves_right (opens_call p) (ih q (omega (arith, lv.1.lower)) y x))
            (Memᴰ.append_cases (opens_to s d p) o))
        by_kind (sheet.either p q) e lv ih o = moves_alone o x

        within : (b : Bool) → ltb k (length s.nodes) ≡ b
            → ((h : ℕ) → rank_of h < n → Memᴰ j (opened s.nodes h) → Memᴰ m (steps s d j)
            → TermMoves (call h) (opened s.nodes h) j m)
            → TermMoves (call k) (opened s.nodes k) j m
        within true e ih =
            let low : Ranked rank_of s.nodes = well_formed_ranked s wf in
            let same : opened s.nodes k ≡ opening_of (opens_to s d) k (node_of s.nodes k) =
            opened_is s.nodes low k (ltb-true k (length s.nodes) e) in
            subst (λ (ts : List ℕ). TermMoves (call k) ts j m) (sym same)
            (by_kind (node_of s.nodes k) refl (low.parts k) ih (subst (λ (ts : List ℕ). Memᴰ j ts) same i))
        within false e ih =
            absurd (none_opened k (length s.nodes)
            (get_or-eq_default s.nodes sheet.stop {n = k} (ltb-false k (length s.nodes) e)) i)

    pub term_moves : {p : Term} {ts : List ℕ} → Opens s.nodes p ts → (j : ℕ) (m : Step) → Memᴰ j ts → Memᴰ m (steps s d j)
        → TermMoves p ts j m
    term_moves opens_nil j m i x = absurd (Memᴰ.not-nil i)
    term_moves (opens_call k) j m i x = call_moves (suc (rank_of k)) k j m (omega arith) i x
    term_moves (opens_parallel {p} {q} {ps} {qs} o u) j m i x = joined (λ y. term_moves o j m y x) (λ y. term_moves u j m y x)
      where
        joined : (Memᴰ j ps → TermMoves p ps j m) → (Memᴰ j qs → TermMoves q qs j m) → TermMoves (parallel p q) (ps ++ qs) j m
        joined f g =
            ⊎_elim (λ (y : Memᴰ j ps). moves_left u (f y)) (λ (y : Memᴰ j qs). moves_right o (g y)) (Memᴰ.append_cases ps i)

  -- ---- the moves of a list of threads
  -- m is the move of a thread's step, the rest as they were
  pub record FromThread (ts : List ℕ) (m : Move) : Type 0 where
    pub thread : ℕ
    pub inside : Memᴰ thread ts
    pub step : Step
    pub among : Memᴰ step (steps s d thread)
    pub rest : List ℕ
    pub taken : SameThreads (thread ∷ rest) ts
    pub is : m ≡ move_of rest step

  pub from_thread : (passed ts : List ℕ) (m : Move) → Memᴰ m (moves_from s d passed ts) → FromThread (passed ++ ts) m
  from_thread passed [] m i = absurd (Memᴰ.not-nil i)
  from_thread passed (t ∷ ts) m i =
      ⊎_elim
      (λ (x : Memᴰ m (map (move_of (passed ++ ts)) (steps s d t))).
      let y = mem_map (move_of (passed ++ ts)) (steps s d t) x in
      record {
        thread = t;
        inside = Memᴰ.append_right passed (Memᴰ.head refl);
        step = y.0;
        among = y.1;
        rest = passed ++ ts;
        taken = same_middle passed t ts;
        is = y.2;
      })
      (λ (x : Memᴰ m (moves_from s d (passed ++ (t ∷ [])) ts)).
      subst (λ (l : List ℕ). FromThread l m) (append_assoc passed (t ∷ []) ts) (from_thread (passed ++ (t ∷ [])) ts m x))
      (Memᴰ.append_cases (map (move_of (passed ++ ts)) (steps s d t)) i)

  pub to_moves : (passed ts : List ℕ) (k : ℕ) (m : Step) (rest : List ℕ) → Memᴰ k ts → Memᴰ m (steps s d k)
      → SameThreads (k ∷ rest) (passed ++ ts) → Memᴰ (move_of rest m) (moves_from s d passed ts)
  to_moves passed [] k m rest i x h = absurd (Memᴰ.not-nil i)
  to_moves passed (t ∷ ts) k m rest i x h = go (λ j z. to_moves (passed ++ (t ∷ [])) ts k m rest j x z) (Memᴰ.cases_cons i)
    where
      go : (Memᴰ k ts → SameThreads (k ∷ rest) ((passed ++ (t ∷ [])) ++ ts)
          → Memᴰ (move_of rest m) (moves_from s d (passed ++ (t ∷ [])) ts))
          → (k ≡ t) ⊎ Memᴰ k ts → Memᴰ (move_of rest m) (moves_from s d passed (t ∷ ts))
      go ih (inl e) =
          let left : SameThreads rest (passed ++ ts) =
          same_rest (same_trans h (same_trans (same_sym (same_middle passed t ts))
          (same_equal (ap (λ (j : ℕ). j ∷ (passed ++ ts)) (sym e))))) in
          Memᴰ.append_left (moves_from s d (passed ++ (t ∷ [])) ts)
          (subst (λ (y : Move). Memᴰ y (map (move_of (passed ++ ts)) (steps s d t)))
          (ap (λ (l : List ℕ). record { label = m.label; target = record { store = m.store; threads = l } })
          (sym (same_right m.threads left).sorted))
          (map_mem (move_of (passed ++ ts)) (subst (λ (j : ℕ). Memᴰ m (steps s d j)) e x)))
      go ih (inr j) =
          Memᴰ.append_right (map (move_of (passed ++ ts)) (steps s d t)) (ih j (same_trans h (same_sym (same_assoc passed (t ∷ []) ts))))
