-- The paper's saturated barbed bisimilarity, over processes as they are written, is that of document 01, over threads in
-- order: order and stop lose nothing.
use Rattle.std.proofs.Common.{sym, ap, ◌∙◌, subst}
use Rattle.std.specs.Prelude.{◌↔◌, ℕ}
use mathlib.Core.List.{Memᴰ}
use Rattle.comparison_laws.specs.FactSets.{Within}
use Rattle.comparison_laws.specs.Stores.{join, least_store}
use Rattle.comparison_laws.specs.StoreLaws.{join_comm}
use Rattle.comparison_laws.specs.Sheet.{Configuration, Sheet}
use Rattle.comparison_laws.specs.WellFormed.{OfSheet, WellFormed}
use Rattle.comparison_laws.specs.Moves.{add}
use Rattle.comparison_laws.specs.Refinement.{Bisimulation, Bisimilar}
use Rattle.comparison_laws.specs.SheetTransitions.{transitions}
use Rattle.comparison_laws.specs.SheetMoves.{lawful, move_of_lem}
use Rattle.paper.specs.Terms.{Conf, Reads, side_by_side}
use Rattle.paper.specs.Bisimulations.{Con, Moves, with_added, SaturatedBarbedBisimulation, SaturatedBarbedBisimilar}
use Rattle.paper.proofs.Bridge.{transition_to_move, reduction_to_move, move_to_reduction, side_by_side_reads}
use Rattle.paper.proofs.ReadsOfSheet.{reads_of_sheet}
use Rattle.paper.proofs.Barbs.{same_stores}

-- a configuration of document 01 as one of the paper's: its threads side by side
abbrev pub written : Configuration → Conf
written p = record { term = side_by_side p.threads; store = p.store }

module _ (s : Sheet) where
  -- adding a constraint to both sides of a reading
  pub reads_added : (a : ℕ) {x : Conf} {p : Configuration} → Reads s x p → Reads s (with_added s a x) (add s a p)
  reads_added a {x} {p} r = record {
    threads = r.threads;
    opens = r.opens;
    same_store = ap (join s.rules a) r.same_store ∙ join_comm s.rules a x.store;
    in_order = r.in_order;
  }

  pub reads_constraint : {x : Conf} {p : Configuration} → OfSheet s p → Reads s x p → Con s x.store
  reads_constraint o r = subst (λ (d : ℕ). Con s d) r.same_store o.store

  -- two of the paper's configurations that are the same one of document 01
  record ReadAlike (x y : Conf) : Type 0 where
    pub meant : Configuration
    pub of : OfSheet s meant
    pub left : Reads s x meant
    pub right : Reads s y meant

  -- a relation of the paper's configurations, as one of document 01's
  record Read (R : Conf → Conf → Type 0) (p q : Configuration) : Type 0 where
    pub left : Conf
    pub right : Conf
    pub left_of : OfSheet s p
    pub right_of : OfSheet s q
    pub left_reads : Reads s left p
    pub right_reads : Reads s right q
    pub related : R left right

  -- a relation of document 01's configurations, as one of the paper's
  record Written (B : Configuration → Configuration → Type 0) (x y : Conf) : Type 0 where
    pub left : Configuration
    pub right : Configuration
    pub left_of : OfSheet s left
    pub right_of : OfSheet s right
    pub left_reads : Reads s x left
    pub right_reads : Reads s y right
    pub related : B left right

  module _ (wf : WellFormed s) where
    of_add : (a : ℕ) (p : Configuration) → Con s a → OfSheet s p → OfSheet s (add s a p)
    of_add = (lawful s wf).of_add

    -- a transition of a process made of nodes leads to a constraint
    pub transition_keeps : (x : Conf) (p : Configuration) (a : ℕ) (t : Conf) → OfSheet s p → Reads s x p → Moves s x a t → Con s t.store
    transition_keeps x p a t o r m =
        let q = transition_to_move s wf x p a t r m in
        reads_constraint (move_of_lem s wf p a q.0 o q.2) q.1

    alike_bisimulation : SaturatedBarbedBisimulation s ReadAlike
    alike_bisimulation = record {
      relation = record {
        over = λ x y h. (reads_constraint h.of h.left, reads_constraint h.of h.right);
        symmetric = λ x y h. record { meant = h.meant; of = h.of; left = h.right; right = h.left };
      };
      barbs = λ x y h c cc w. subst (λ (d : ℕ). Within c d) (sym h.left.same_store ∙ h.right.same_store) w;
      reductions = λ x y x' h r.
          let m = reduction_to_move s wf x h.meant x' (reads_constraint h.of h.left) h.left r in
          let n = move_to_reduction s wf y h.meant m.0 (reads_constraint h.of h.right) h.right m.2 in
          let o : OfSheet s m.0 = move_of_lem s wf h.meant (least_store s.rules) m.0 h.of m.2 in
          (n.0, n.1, record { meant = m.0; of = o; left = m.1; right = n.2 });
      upward = λ x y h a ca. record {
        meant = add s a h.meant;
        of = of_add a h.meant ca h.of;
        left = reads_added a h.left;
        right = reads_added a h.right;
      };
    }

    -- two processes that open to the same threads, in any order and with any number of stops, are bisimilar at one store
    pub same_threads_bisimilar : (x y : Conf) (p : Configuration) → OfSheet s p → Reads s x p → Reads s y p → SaturatedBarbedBisimilar s x y
    same_threads_bisimilar x y p o r t =
        record { relation = ReadAlike; is_such = alike_bisimulation; contains = record { meant = p; of = o; left = r; right = t } }

    -- ---- from the paper's bisimulations to those of document 01
    read_bisimulation : (R : Conf → Conf → Type 0) → SaturatedBarbedBisimulation s R → Bisimulation (transitions s) (Read R)
    read_bisimulation R b = record {
      over = λ p q h. (h.left_of, h.right_of);
      symmetric = λ p q h. record {
        left = h.right;
        right = h.left;
        left_of = h.right_of;
        right_of = h.left_of;
        left_reads = h.right_reads;
        right_reads = h.left_reads;
        related = b.relation.symmetric h.left h.right h.related;
      };
      barbs = λ p q h.
          h.left_reads.same_store
          ∙ same_stores s R b.relation b.barbs h.left h.right h.related
          ∙ sym h.right_reads.same_store;
      answers = λ p q t h m.
          let cx : Con s h.left.store = reads_constraint h.left_of h.left_reads in
          let cy : Con s h.right.store = reads_constraint h.right_of h.right_reads in
          let x = move_to_reduction s wf h.left p t cx h.left_reads m in
          let y = b.reductions h.left h.right x.0 h.related x.1 in
          let z = reduction_to_move s wf h.right q y.0 cy h.right_reads y.1 in (
            z.0,
            z.2,
            record {
              left = x.0;
              right = y.0;
              left_of = move_of_lem s wf p (least_store s.rules) t h.left_of m;
              right_of = move_of_lem s wf q (least_store s.rules) z.0 h.right_of z.2;
              left_reads = x.2;
              right_reads = z.1;
              related = y.2;
            },
          );
      adds = λ p q e ce h. record {
        left = with_added s e h.left;
        right = with_added s e h.right;
        left_of = of_add e p ce h.left_of;
        right_of = of_add e q ce h.right_of;
        left_reads = reads_added e h.left_reads;
        right_reads = reads_added e h.right_reads;
        related = b.upward h.left h.right h.related e ce;
      };
    }

    -- ---- and back
    written_bisimulation : (B : Configuration → Configuration → Type 0) → Bisimulation (transitions s) B
        → SaturatedBarbedBisimulation s (Written B)
    written_bisimulation B b = record {
      relation = record {
        over = λ x y h. (reads_constraint h.left_of h.left_reads, reads_constraint h.right_of h.right_reads);
        symmetric = λ x y h. record {
          left = h.right;
          right = h.left;
          left_of = h.right_of;
          right_of = h.left_of;
          left_reads = h.right_reads;
          right_reads = h.left_reads;
          related = b.symmetric h.left h.right h.related;
        };
      };
      barbs = λ x y h c cc w.
          subst (λ (d : ℕ). Within c d)
          (sym h.left_reads.same_store ∙ b.barbs h.left h.right h.related ∙ h.right_reads.same_store) w;
      reductions = λ x y x' h r.
          let cx : Con s x.store = reads_constraint h.left_of h.left_reads in
          let cy : Con s y.store = reads_constraint h.right_of h.right_reads in
          let m = reduction_to_move s wf x h.left x' cx h.left_reads r in
          let n = b.answers h.left h.right m.0 h.related m.2 in
          let z = move_to_reduction s wf y h.right n.0 cy h.right_reads n.1 in (
            z.0,
            z.1,
            record {
              left = m.0;
              right = n.0;
              left_of = move_of_lem s wf h.left (least_store s.rules) m.0 h.left_of m.2;
              right_of = move_of_lem s wf h.right (least_store s.rules) n.0 h.right_of n.1;
              left_reads = m.1;
              right_reads = z.2;
              related = n.2;
            },
          );
      upward = λ x y h a ca. record {
        left = add s a h.left;
        right = add s a h.right;
        left_of = of_add a h.left ca h.left_of;
        right_of = of_add a h.right ca h.right_of;
        left_reads = reads_added a h.left_reads;
        right_reads = reads_added a h.right_reads;
        related = b.adds h.left h.right a ca h.related;
      };
    }

    -- The paper's ∼sb of two processes is that of document 01 of the configurations that they are.
    pub saturated_agrees : (x y : Conf) (p q : Configuration) → OfSheet s p → OfSheet s q → Reads s x p → Reads s y q
        → SaturatedBarbedBisimilar s x y ↔ Bisimilar (transitions s) p q
    saturated_agrees x y p q op oq r t = (
      (λ b. record {
        relation = Read b.relation;
        is_bisimulation = read_bisimulation b.relation b.is_such;
        contains = record { left = x; right = y; left_of = op; right_of = oq; left_reads = r; right_reads = t; related = b.contains };
      }),
      (λ b. record {
        relation = Written b.relation;
        is_such = written_bisimulation b.relation b.is_bisimulation;
        contains = record { left = p; right = q; left_of = op; right_of = oq; left_reads = r; right_reads = t; related = b.contains };
      }),
    )

    -- the same for two starts of the sheet
    pub starts_agree : ((p : Configuration) → Memᴰ p s.starts → OfSheet s p)
        → (p q : Configuration) → Memᴰ p s.starts → Memᴰ q s.starts
        → SaturatedBarbedBisimilar s (written p) (written q) ↔ Bisimilar (transitions s) p q
    starts_agree fit p q mp mq =
        let op : OfSheet s p = fit p mp in
        let oq : OfSheet s q = fit q mq in
        saturated_agrees (written p) (written q) p q op oq (side_by_side_reads s wf p op.process)
        (side_by_side_reads s wf q oq.process)

    -- the same for all processes made of nodes, at constraints
    pub saturated_agrees_closed : (x y : Conf) (p q : Configuration) → Con s x.store → Con s y.store → Reads s x p → Reads s y q
        → SaturatedBarbedBisimilar s x y ↔ Bisimilar (transitions s) p q
    saturated_agrees_closed x y p q cx cy r t =
        saturated_agrees x y p q (reads_of_sheet s wf x p cx r) (reads_of_sheet s wf y q cy t) r t
