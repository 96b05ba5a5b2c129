-- The paper's transitions of a process made of nodes are the moves of document 01, up to the order of threads and stop, and
-- its reductions are the reductions there.
use Rattle.std.specs.Prelude.{◌≡◌, refl}
use Rattle.std.proofs.Math.Path.{sym, ap, subst}
use Rattle.std.proofs.Common.{ap₂, ◌∙◌}
use mathlib.Core.List.{List, [], ◌∷◌, ◌++◌, Memᴰ}
use Prim.Native.Nat.{ℕ}
use Rattle.comparison_laws.specs.Lists.{sort_up}
use Rattle.comparison_laws.specs.AscendingLaws.{sort_up_only, sort_up_same, arrange_keeps, arrange_only}
use Rattle.comparison_laws.specs.Stores.{least_store}
use Rattle.comparison_laws.specs.Sheet.{Configuration, Sheet, opened}
use Rattle.comparison_laws.specs.WellFormed.{Process, WellFormed}
use Rattle.comparison_laws.specs.Orders.{Move}
use Rattle.comparison_laws.specs.OrderLaws.{move_order}
use Rattle.comparison_laws.specs.Moves.{moves_from, moves, Moves as SheetMoves, Reduces as SheetReduces}
use Rattle.paper.specs.Terms.{Term, call, Conf, Opens, opens_nil, opens_call, opens_parallel, Reads, side_by_side}
use Rattle.paper.specs.Bisimulations.{Con, Moves, Reduces}
use Rattle.paper.proofs.Agreement.{reduction_transition}
use Rattle.paper.proofs.SameThreads.{SameThreads, same_sym, same_trans, same_sorted, same_right, same_rest, same_in}
use Rattle.paper.proofs.ThreadMoves.{ThreadMoved, term_moved, term_moves, from_thread, to_moves}

module _ (s : Sheet) (wf : WellFormed s) where
  -- the configuration of a store and threads in any order
  abbrev in_order_lem : ℕ → List ℕ → Configuration
  in_order_lem d ts = record { store = d; threads = sort_up ts }

  reads_in_order : {x : Conf} {p : Configuration} (r : Reads s x p) → p ≡ in_order_lem x.store r.threads
  reads_in_order r = ap₂ (λ (d : ℕ) (ts : List ℕ). record { store = d; threads = ts }) r.same_store r.in_order

  thread_move : {d a d' : ℕ} {ts : List ℕ} {t : Term} (x : ThreadMoved s d ts a t d')
      → SheetMoves s (in_order_lem d ts) a (in_order_lem d' x.threads)
  unfolding moves
  thread_move {d} {a} {d'} {ts} x =
      arrange_keeps move_order (moves_from s d [] (sort_up ts))
      (subst (λ (m : Move). Memᴰ m (moves_from s d [] (sort_up ts)))
      (ap₂ (λ (l : ℕ) (q : Configuration). record { label = l; target = q }) x.label
      (ap₂ (λ (e : ℕ) (l : List ℕ). record { store = e; threads = l }) x.store (sym x.same.sorted)))
      (to_moves s d [] (sort_up ts) x.thread x.step x.rest (same_in x.taken) x.among
      (same_trans x.taken (same_sorted ts))))

  -- each transition of the paper's is a move of document 01
  pub transition_to_move : (x : Conf) (p : Configuration) (a : ℕ) (t : Conf) → Reads s x p → Moves s x a t
      → (q : Configuration) × Reads s t q × SheetMoves s p a q
  transition_to_move x p a t r h =
      let z = term_moved s x.store wf r.opens a t.store t.term h in (
        in_order_lem t.store z.threads,
        record { threads = z.threads; opens = z.opens; same_store = refl; in_order = refl },
        subst (λ (c : Configuration). SheetMoves s c a (in_order_lem t.store z.threads)) (sym (reads_in_order r)) (thread_move z),
      )

  -- each move of document 01 is a transition of the paper's
  pub move_to_transition : (x : Conf) (p : Configuration) (a : ℕ) (q : Configuration) → Reads s x p → SheetMoves s p a q
      → (t : Conf) × Moves s x a t × Reads s t q
  unfolding moves
  move_to_transition x p a q r h =
      let d : ℕ = x.store in
      let ts : List ℕ = r.threads in
      let m : Move = record { label = a; target = q } in
      let y = from_thread s d [] (sort_up ts) m
      (arrange_only move_order (moves_from s d [] (sort_up ts))
      (subst (λ (c : Configuration). Memᴰ m (moves s c)) (reads_in_order r) h)) in
      let z = term_moves s d wf r.opens y.thread y.step (sort_up_only ts y.inside) y.among in
      let rests : SameThreads z.rest y.rest = same_rest (same_trans z.taken (same_trans (same_sorted ts) (same_sym y.taken))) in
      let label : a ≡ y.step.label = ap (λ (k : Move). k.label) y.is in
      let store : q.store ≡ y.step.store = ap (λ (k : Move). k.target.store) y.is in
      let threads : q.threads ≡ sort_up (y.step.threads ++ y.rest) = ap (λ (k : Move). k.target.threads) y.is in (
        record { term = z.term; store = y.step.store },
        subst (λ (b : ℕ). Moves s x b (record { term = z.term; store = y.step.store })) (sym label) z.transition,
        record {
          threads = z.threads;
          opens = z.opens;
          same_store = store;
          in_order = threads ∙ sym (same_right y.step.threads rests).sorted ∙ sym z.same.sorted;
        },
      )

  -- the same for reductions, where the store is a constraint
  pub reduction_to_move : (x : Conf) (p : Configuration) (t : Conf) → Con s x.store → Reads s x p → Reduces s x t
      → (q : Configuration) × Reads s t q × SheetReduces s p q
  reduction_to_move x p t c r h =
      transition_to_move x p (least_store s.rules) t r ((reduction_transition s wf x.term x.store t.term t.store c).0 h)

  pub move_to_reduction : (x : Conf) (p : Configuration) (q : Configuration) → Con s x.store → Reads s x p → SheetReduces s p q
      → (t : Conf) × Reduces s x t × Reads s t q
  move_to_reduction x p q c r h =
      let y = move_to_transition x p (least_store s.rules) q r h in
      (y.0, (reduction_transition s wf x.term x.store y.0.term y.0.store c).1 y.1, y.2)

  -- ---- threads side by side
  opens_side_by_side : (ts : List ℕ) → ((k : ℕ) → Memᴰ k ts → opened s.nodes k ≡ k ∷ []) → Opens s.nodes (side_by_side ts) ts
  opens_side_by_side [] f = opens_nil
  opens_side_by_side (t ∷ ts) f =
      opens_parallel (subst (λ (l : List ℕ). Opens s.nodes (call t) l) (f t (Memᴰ.head refl)) (opens_call t))
      (opens_side_by_side ts (λ k m. f k (Memᴰ.tail m)))

  pub side_by_side_reads : (p : Configuration) → Process s.nodes p.threads
      → Reads s (record { term = side_by_side p.threads; store = p.store }) p
  side_by_side_reads p h = record {
    threads = p.threads;
    opens = opens_side_by_side p.threads h.self_opening;
    same_store = refl;
    in_order = sym (sort_up_same p.threads h.ascending);
  }
