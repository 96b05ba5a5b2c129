-- The loop over the nodes: what it has after i of n nodes, and what the whole reading then is.
use Rattle.std.specs.Prelude.{◌≡◌, List, [], Ok, Err, ℕ, ◌+◌, ◌-◌, ◌≤◌, ◌<◌, length}
use Rattle.std.proofs.Common.{sym, ap, ◌∙◌, arith}
use Rattle.sheet_types.specs.Tabulate.{tabulate_none}
use Rattle.set_closure.specs.Stores.{Rule}
use Rattle.set_closure.specs.SheetLimits.{min_nodes, max_nodes}
use Rattle.sheet_types.specs.Sheet.{Node}
use Rattle.sheet_types.specs.Reading.{got, refused, records_from, node_at}
use Rattle.sheet_fields.specs.RecordLaws.{records_none, records_refused, records_next}
use Rattle.refusals.specs.Numbers.{number}
use Rattle.refusals.specs.declared.Refused.{Refused}
use Rattle.sheet_types.specs.HeldSheet.{node_in, nodes_in}
use Rattle.sheet_types.specs.NodeTable.{nodes_of, opened_of, movables_of, table_end}
use Rattle.node_opening.specs.OpenedNodes.{table_none}
use Rattle.movable_nodes.specs.MovabilityLaws.{marks_none}
use Rattle.movable_nodes.specs.NodeTables.{NodeTable}
use Rattle.node_reader.specs.NodesFound.{NodesFound, nodes_refused}
use Rattle.node_reader.specs.NextNodeLaws.{NextNode}

-- i nodes are read up to p, and what is left to read gives what the whole gives
pub record SoFar (facts : ℕ) (rules : List Rule) (n : ℕ) (s : List ℕ) (at i p : ℕ) (t : List ℕ) : Type 0 where
  pub room : length t ≡ table_end
  pub table : NodeTable (nodes_in (nodes_of t) i) t
  pub rest : records_from (node_at facts rules n s) (n - i) (nodes_in (nodes_of t) i) p ≡ records_from (node_at facts rules n s) n [] at

module _ (facts : ℕ) (rules : List Rule) (n : ℕ) (s : List ℕ) (at : ℕ) where
  pub so_far_none : (t : List ℕ) → length t ≡ table_end → SoFar facts rules n s at 0 at t
  so_far_none t room =
      let none = tabulate_none (node_in (nodes_of t)) in
      let z : n - 0 ≡ n = omega arith in
      record {
        room = room;
        table = rw none (record { opened = table_none (opened_of t); marks = marks_none (movables_of t) });
        rest = rw (none, z);
      }

  module _ (i p : ℕ) (t : List ℕ) (sofar : SoFar facts rules n s at i p t) where
    pub so_far_refused : (e : Refused) → i < n → node_at facts rules n s (nodes_in (nodes_of t) i) p ≡ refused (number e.refusal) e.place
        → NodesFound (records_from (node_at facts rules n s) n [] at) s (Err e)
    so_far_refused e l h =
        nodes_refused (records_from (node_at facts rules n s) n [] at) s e
        (sym sofar.rest ∙ records_refused (node_at facts rules n s) n i (nodes_in (nodes_of t) i) p _ _ l h)

    pub so_far_next : i < n → (after : List ℕ) (next : ℕ) → NextNode facts rules n s t i p after next → SoFar facts rules n s at (i + 1) next after
    so_far_next l after next one =
        record {
          room = one.long;
          table = one.table;
          rest =
              ap (λ (ns : List Node). records_from (node_at facts rules n s) (n - (i + 1)) ns next) one.nodes
              ∙ sym (records_next (node_at facts rules n s) n i (nodes_in (nodes_of t) i) p next one.node l one.reading)
              ∙ sofar.rest;
        }

    pub so_far_end : i ≡ n → min_nodes ≤ n → n ≤ max_nodes → p ≤ length s
        → NodesFound (records_from (node_at facts rules n s) n [] at) s (Ok (record { count = n; table = t; next = p }))
    so_far_end e some few within =
        record {
          reading =
              ap (λ (m : ℕ). got (nodes_in (nodes_of t) m) p) (sym e)
              ∙ sym (records_none (node_at facts rules n s) n i (nodes_in (nodes_of t) i) p (omega arith))
              ∙ sofar.rest;
          held = record { within = within; some = some; few = few; room = sofar.room; table = rw (sym e) sofar.table };
        }
