-- A node by its kind, and turns one after another.
use Rattle.std.specs.Prelude.{◌≡◌, false, ℕ, ◌+◌, ◌<◌, length, get_or}
use Rattle.std.proofs.Common.{sym, ap, ◌∙◌, subst, inl, inr, arith, ne_eqb}
use mathlib.Core.List.Memᴰ
use mathlib.Core.List.{List, [], ◌∷◌, Memᴰ}
use Rattle.nodes_to_visit.specs.Frames.{outside_again}
use Rattle.sheet_types.specs.Tabulate.{tabulate_at, tabulate_length, tabulate_none}
use Rattle.sheet_types.specs.Sheet.{Node, stop, tell, ask, both, either, node_of}
use Rattle.threads_beside.specs.Ranks.{OfParts, Part, Ranked}
use Rattle.nodes_to_visit.specs.Orders.{Move}
use Rattle.threads_beside.specs.NodeMoves.{NodeBeside}
use Rattle.threads_beside.specs.NodeMoveLaws.{moves_of_stop}
use Rattle.sheet_types.specs.NodeTable.{Nodes, nodes_of}
use Rattle.sheet_types.specs.HeldSheet.{node_held, node_in, nodes_in}
use Rattle.walk_state.specs.CollectedMoves.{Grown, moves_of}
use Rattle.walk_state.specs.CollectedLaws.{grown_refl, grown_trans}
use Rattle.walk_state.specs.SetGrowth.{Growth, InHand}
use Rattle.nodes_to_visit.specs.NodesToVisit.{pending_one, pending_in}
use Rattle.walk_state.specs.declared.Basis.{Basis}
use Rattle.walk_state.specs.declared.Walk.{Walk}
use Rattle.std.specs.Prelude.{Option, Some, None}
use Rattle.walk_state.specs.WalkState.{NodesLent, NodesOf, VisitFits, Walking, InReach, Covering, OnSheet, Carried, TurnOn, TurnOver, Turned}
use Rattle.walk_state.specs.NotedInWalk.{grown_sheet, noted_none, noted_turn}
use Rattle.both_either_visits.specs.StoredParts.{NodeKnown}
use Rattle.node_marks.specs.declared.Marked.{Marked}
use Rattle.node_marks.specs.NodeMarks.{SeenAs}
use Rattle.node_walk.specs.NodeVisits.{WalkedOn}
use Rattle.node_marks.specs.MarkLaws.{unstacked, last_entry, marked_walking, marked_turn, marked_turn_over, passed_turn}

-- ---- a node by its kind byte and its fields
pub record HeldBy (v : Node) (kind first second : ℕ) : Type 0 where
  pub is : v ≡ node_held kind first second

pub held_at : (ns : Nodes) (n k : ℕ) → k < n → {kind first second : ℕ} → kind ≡ get_or ns.kinds k 0 → first ≡ get_or ns.firsts k 0
    → second ≡ get_or ns.seconds k 0 → HeldBy (node_of (nodes_in ns n) k) kind first second
held_at ns n k l x y z = record { is = rw (x, y, z) (tabulate_at (node_in ns) n k stop l) }

module _ {v : Node} {kind first second : ℕ} (h : HeldBy v kind first second) where
  of_kind : (i : ℕ) → kind ≡ i → v ≡ node_held i first second
  of_kind i e = h.is ∙ ap (λ (j : ℕ). node_held j first second) e

  pub held_stop : kind ≡ 0 → v ≡ stop
  held_stop e = of_kind 0 e

  pub held_tell : kind ≡ 1 → v ≡ tell first
  held_tell e = of_kind 1 e

  pub held_ask : kind ≡ 2 → v ≡ ask first second
  held_ask e = of_kind 2 e

  pub held_both : kind ≡ 3 → v ≡ both first second
  held_both e = of_kind 3 e

  pub held_either : (kind ≡ 0 → ⊥) → (kind ≡ 1 → ⊥) → (kind ≡ 2 → ⊥) → (kind ≡ 3 → ⊥) → v ≡ either first second
  held_either a b c d = h.is ∙ simp (ne_eqb kind 0 a, ne_eqb kind 1 b, ne_eqb kind 2 c, ne_eqb kind 3 d)

-- the parts of a both and of an either
module _ {rank : ℕ → ℕ} {b : Basis} {nodes : List Node} (of : NodesOf rank b nodes) (k : ℕ) where
  parts_by : {v : Node} → node_of nodes k ≡ v → OfParts (Part rank b.nodes k) v
  parts_by e =
      subst (OfParts (Part rank b.nodes k)) e
      (subst (λ (n : ℕ). OfParts (Part rank n k) (node_of nodes k)) of.count (of.ranked.parts k))

  pub parts_both : {p q : ℕ} → node_of nodes k ≡ both p q → Part rank b.nodes k p × Part rank b.nodes k q
  parts_both e = parts_by e

  pub parts_either : {p q : ℕ} → node_of nodes k ≡ either p q → Part rank b.nodes k p × Part rank b.nodes k q
  parts_either e = parts_by e

module _ {rank : ℕ → ℕ} {table : List ℕ} {b : Basis} (h : NodesLent rank table b) where
  -- as many nodes are held as there are
  pub lent_nodes : NodesOf rank b (nodes_in (nodes_of table) b.nodes)
  lent_nodes =
      record {
        count = tabulate_length (node_in (nodes_of table)) b.nodes;
        ranked = h.ranked;
      }

  pub lent_known : (k : ℕ) → k < b.nodes → NodeKnown (nodes_in (nodes_of table) b.nodes) table k
  lent_known k l = record { opens = h.opens k l; mark = h.movable.at k l }

-- ---- a stop gives nothing
pub stop_turn : {rank : ℕ → ℕ} {b : Basis} {v : List ℕ} {s : Walk} {e : NodeBeside} → Walking rank v b s → VisitFits b e → (nodes : List Node)
    → NodesOf rank b nodes → node_of nodes e.node ≡ stop → TurnOn rank nodes b v s (e ∷ []) v s
stop_turn {rank} {b} {v} {s} {e} k fit nodes of q =
    noted_turn k (noted_none k.collecting) nodes e (λ m i. absurd (Memᴰ.not-nil i))
    (λ g o.
    moves_of_stop g.sheet (subst (Ranked rank) (sym o.nodes_are) of.ranked) b.store e.threads e.node
    (subst (λ (ns : List Node). e.node < length ns) (sym o.nodes_are) (omega (arith, fit.node, of.count)))
    (ap (λ (ns : List Node). node_of ns e.node) o.nodes_are ∙ q))

-- ---- the last node to visit, taken out and looked for among the marks
module _ {rank : ℕ → ℕ} {b : Basis} {v : List ℕ} {s : Walk} (k : Walking rank v b s) (n : ℕ) (last : n + 1 ≡ s.top) {w : List ℕ} {r : Marked}
    (x : NodeBeside) (is : x ≡ pending_one v n) (a : SeenAs v s.marks x w r) where
  there : SeenAs v s.marks (pending_one v n) w r
  there = subst (λ (z : NodeBeside). SeenAs v s.marks z w r) is a

  pub taken_walking : Walking rank w b (unstacked s r.marks n)
  taken_walking = marked_walking k n last there

  -- it is passed over where it was marked before
  pub taken_passed : (nodes : List Node) → r.fresh ≡ false → TurnOn rank nodes b v s [] w (unstacked s r.marks n)
  taken_passed nodes t = passed_turn k n last there nodes t

  -- else it is visited
  module _ (y : NodeBeside) (same : y ≡ x) where
    pub taken_fits : VisitFits b y
    taken_fits = subst (VisitFits b) (sym (same ∙ is)) (last_entry k n last there).fits

    pub taken_low : rank y.node + n < 64
    taken_low = subst (λ (z : NodeBeside). rank z.node + n < 64) (sym (same ∙ is)) (last_entry k n last there).height

    pub taken_turned : (nodes : List Node) (u : List ℕ) (t : Option Walk) → Turned rank nodes b w (unstacked s r.marks n) (y ∷ []) u t
        → Turned rank nodes b v s [] u t
    taken_turned nodes u (Some t) h =
        marked_turn k n last there (subst (λ (z : NodeBeside). TurnOn rank nodes b w (unstacked s r.marks n) (z ∷ []) u t) (same ∙ is) h)
    taken_turned nodes u None h =
        marked_turn_over k n last there
        (subst (λ (z : NodeBeside). TurnOver rank nodes b w (unstacked s r.marks n) (z ∷ []) u) (same ∙ is) h)

-- ---- turns one after another
-- all is in order, and nothing in reach is lost
pub record Onward (rank : ℕ → ℕ) (nodes : List Node) (b : Basis) (v : List ℕ) (s : Walk) (w : List ℕ) (t : Walk) : Type 0 where
  pub walking : Walking rank w b t
  pub grown : Grown v b.first s.running w t.running
  pub carried : (g : Growth) (h : InHand g) → OnSheet g nodes b v → Covering rank g h b v s [] → Carried rank g h b v s [] w t

pub onward_none : {rank : ℕ → ℕ} {b : Basis} {v : List ℕ} {s : Walk} (nodes : List Node) → Walking rank v b s → Onward rank nodes b v s v s
onward_none {b = b} {v} {s} nodes k =
    record {
      walking = k;
      grown = grown_refl v b.first s.running;
      carried = λ g h o c. record { covering = c; carries = λ m i. i };
    }

module _ {rank : ℕ → ℕ} {nodes : List Node} {b : Basis} {v : List ℕ} {s : Walk} {u : List ℕ} {r : Walk} (k : Walking rank v b s)
    (a : Onward rank nodes b v s u r) where
  pub onward_next : {w : List ℕ} {t : Walk} → TurnOn rank nodes b u r [] w t → Onward rank nodes b v s w t
  onward_next {w} {t} x =
      record {
        walking = x.walking;
        grown = grown_trans v u w b.first s.running r.running t.running a.grown x.grown;
        carried = λ g h o c.
            let y = a.carried g h o c in
            let z = x.carried g h (grown_sheet k a.grown.outside o) y.covering in
            record { covering = z.covering; carries = λ m i. z.carries m (y.carries m i) };
      }

  pub onward_over : {w : List ℕ} → TurnOver rank nodes b u r [] w → TurnOver rank nodes b v s [] w
  onward_over x =
      record {
        passes = λ g h o c. x.passes g h (grown_sheet k a.grown.outside o) (a.carried g h o c).covering;
        outside = outside_again a.grown.outside x.outside;
      }

  -- no node is left to visit
  pub onward_end : r.top ≡ 0 → WalkedOn rank nodes b v s u r
  onward_end z =
      record {
        walking = a.walking;
        none_left = z;
        grown = a.grown;
        covering = λ g h o c. (a.carried g h o c).covering;
        collected = λ g h o c m i. all_collected g m ((a.carried g h o c).carries m i);
      }
    where
      none : pending_in u r.top ≡ []
      none = ap (pending_in u) z ∙ tabulate_none (pending_one u)

      all_collected : (g : Growth) (m : Move) → InReach g b u r [] m → Memᴰ m (moves_of u b.first r.running)
      all_collected g m (inl i) = i
      all_collected g m (inr x) = absurd (Memᴰ.not-nil (subst (Memᴰ x.0) none x.1))

-- ---- the answer of a turn taken apart
module _ {rank : ℕ → ℕ} {nodes : List Node} {b : Basis} {v : List ℕ} {s : Walk} {extra : List NodeBeside} {w : List ℕ} {r : Option Walk} where
  pub turned_on : {t : Walk} → r ≡ Some t → Turned rank nodes b v s extra w r → TurnOn rank nodes b v s extra w t
  turned_on e h = subst (Turned rank nodes b v s extra w) e h

  pub turned_over : r ≡ None → Turned rank nodes b v s extra w r → TurnOver rank nodes b v s extra w
  turned_over e h = subst (Turned rank nodes b v s extra w) e h
