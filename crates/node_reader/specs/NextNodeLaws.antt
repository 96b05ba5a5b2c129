-- One node after those that were read: refused in its fields, refused for its threads, or read, with its threads in the table.
use Rattle.std.specs.Prelude.{◌≡◌, true, false, List, [], ◌∷◌, ◌++◌, Ok, Err, ℕ, ◌+◌, ◌≤◌, ◌<◌, length, set, ltb}
use Rattle.std.proofs.Common.{sym, ap, ◌∙◌, subst, arith, length-append, length-take, length-drop, get_or-set_same, get_or-set_other, lt-ltb, le-ltb}
use Rattle.sheet_types.specs.Tabulate.{tabulate_next, tabulate_same, tabulate_length}
use Rattle.set_closure.specs.Stores.{Rule}
use Rattle.set_closure.specs.SheetLimits.{max_threads, max_nodes}
use Rattle.sheet_types.specs.Sheet.{Node, opened}
use Rattle.sheet_types.specs.Reading.{got, refused, and_then, refused_if, node_at}
use Rattle.node_opening.specs.Ranks.{LowerNames}
use Rattle.sheet_fields.specs.NodeFields.{node_fields_at, opens_to_many, node_checked}
use Rattle.sheet_fields.specs.SectionLaws.{node_fields_lower}
use Rattle.refusals.specs.Numbers.{number}
use Rattle.refusals.specs.declared.Refused.{Refused}
use Rattle.sheet_types.specs.KindBytes.{kind_byte}
use Rattle.sheet_types.specs.HeldSheet.{node_held, node_in, nodes_in}
use Rattle.sheet_types.specs.NodeTable.{Nodes, Opened, nodes_of, opened_of, movables_of, table_end}
use Rattle.node_opening.specs.OpenedNodes.{OpenedTable, OpenedNode, OpenedAs, threads_of, holding, open_node, table_threads, table_next}
use Rattle.movable_nodes.specs.Movability.{MovableHeld, mark_for}
use Rattle.movable_nodes.specs.MovabilityLaws.{marks_next}
use Rattle.movable_nodes.specs.NodeTables.{NodeTable}
use Rattle.node_reader.specs.declared.NodeFields.{NodeFields}
use Rattle.node_reader.specs.NodesFound.{NodeFound, NodePut, Room, with_node}
use Rattle.node_reader.specs.StoredNode.{room_of}

-- the nodes with one more are those before, and that one
pub nodes_with : (ns : Nodes) (i kind first second : ℕ) → i < length ns.kinds → i < length ns.firsts → i < length ns.seconds
    → nodes_in (with_node ns i kind first second) (i + 1) ≡ nodes_in ns i ++ (node_held kind first second ∷ [])
nodes_with ns i kind first second a b c =
    let with : Nodes = with_node ns i kind first second in
    let last : node_in with i ≡ node_held kind first second =
    rw (get_or-set_same ns.kinds i kind 0 a, get_or-set_same ns.firsts i first 0 b, get_or-set_same ns.seconds i second 0 c) in
    tabulate_next (node_in with) i
    ∙ ap (λ (l : List Node). l ++ (node_in with i ∷ [])) (tabulate_same (node_in with) (node_in ns) i (λ j l.
    rw (get_or-set_other ns.kinds i j kind 0 (omega arith), get_or-set_other ns.firsts i j first 0 (omega arith), get_or-set_other ns.seconds i j second 0 (omega arith))))
    ∙ ap (λ (x : Node). nodes_in ns i ++ (x ∷ [])) last

-- one node more is read up to `next`: the table has it
pub record NextNode (facts : ℕ) (rules : List Rule) (n : ℕ) (s : List ℕ) (before : List ℕ) (i at : ℕ) (after : List ℕ) (next : ℕ) : Type 0 where
  pub node : Node
  pub reading : node_at facts rules n s (nodes_in (nodes_of before) i) at ≡ got node next
  pub nodes : nodes_in (nodes_of after) (i + 1) ≡ nodes_in (nodes_of before) i ++ (node ∷ [])
  pub table : NodeTable (nodes_in (nodes_of after) (i + 1)) after
  pub long : length after ≡ table_end
  pub within : next ≤ length s

module _ (facts : ℕ) (rules : List Rule) (n : ℕ) (s : List ℕ) (nodes : Nodes) (o : Opened) (i at : ℕ) (table : OpenedTable (nodes_in nodes i) o) where
  long : length (nodes_in nodes i) ≡ i
  long = tabulate_length (node_in nodes) i

  checked : node_at facts rules n s (nodes_in nodes i) at
      ≡ and_then (node_fields_at facts rules n i s at) (λ x next. refused_if (opens_to_many (nodes_in nodes i) x) 15 at (got x next))
  checked =
      node_checked facts rules n s (nodes_in nodes i) at
      ∙ ap (λ (k : ℕ). and_then (node_fields_at facts rules n k s at) (λ x next. refused_if (opens_to_many (nodes_in nodes i) x) 15 at (got x next))) long

  pub next_refused : (e : Refused) → NodeFound facts rules n i s at (Err e)
      → node_at facts rules n s (nodes_in nodes i) at ≡ refused (number e.refusal) e.place
  next_refused e found = rw (checked, sym found.reading)

  module _ (r : NodeFields) (found : NodeFound facts rules n i s at (Ok r)) where
    -- the node, from its fields
    fields_got : node_fields_at facts rules n i s at ≡ got (node_held (kind_byte r.kind) r.first r.second) r.next
    fields_got = sym found.reading

    pub next_fits : LowerNames i (node_held (kind_byte r.kind) r.first r.second) × (r.next ≤ length s)
    next_fits =
        let h = (node_fields_lower facts rules n i s at).holds (node_held (kind_byte r.kind) r.first r.second) r.next fields_got in
        (h.1, h.0.within)

    lower : LowerNames (length (nodes_in nodes i)) (node_held (kind_byte r.kind) r.first r.second)
    lower = subst (λ (k : ℕ). LowerNames k (node_held (kind_byte r.kind) r.first r.second)) (sym long) next_fits.0

    -- the number of its threads, from the table
    threads : length (threads_of o i (node_held (kind_byte r.kind) r.first r.second))
        ≡ length (opened (nodes_in nodes i ++ (node_held (kind_byte r.kind) r.first r.second ∷ [])) (length (nodes_in nodes i)))
    threads =
        ap (λ (k : ℕ). length (threads_of o k (node_held (kind_byte r.kind) r.first r.second))) (sym long)
        ∙ ap length (table_threads (nodes_in nodes i) o (node_held (kind_byte r.kind) r.first r.second) table lower)

    module _ (b : OpenedNode) (e : b ≡ open_node o i (node_held (kind_byte r.kind) r.first r.second)) where
      count : b.count ≡ length (threads_of o i (node_held (kind_byte r.kind) r.first r.second))
      count = ap (λ (x : OpenedNode). x.count) e

      pub next_many : max_threads < b.count → node_at facts rules n s (nodes_in nodes i) at ≡ refused 15 at
      next_many h =
          let many : opens_to_many (nodes_in nodes i) (node_held (kind_byte r.kind) r.first r.second) ≡ true =
          ap (ltb max_threads) (sym (count ∙ threads)) ∙ lt-ltb max_threads b.count h in
          rw (checked, fields_got, many)

      module _ (small : i < max_nodes) (room : Room nodes o) where
        added : nodes_in (with_node nodes i (kind_byte r.kind) r.first r.second) (i + 1) ≡ nodes_in nodes i ++ (node_held (kind_byte r.kind) r.first r.second ∷ [])
        added = nodes_with nodes i (kind_byte r.kind) r.first r.second (omega arith) (omega arith) (omega arith)

        stored : b.count ≤ max_threads → b.opened ≡ holding o i (threads_of o i (node_held (kind_byte r.kind) r.first r.second))
        stored h =
            let few = le-ltb max_threads (length (threads_of o i (node_held (kind_byte r.kind) r.first r.second))) (omega (arith, count)) in
            ap (λ (x : OpenedNode). x.opened) e ∙ rw few

        tabled : b.count ≤ max_threads → OpenedTable (nodes_in nodes i ++ (node_held (kind_byte r.kind) r.first r.second ∷ [])) b.opened
        tabled h =
            rw (stored h)
            (subst (λ (k : ℕ). OpenedTable (nodes_in nodes i ++ (node_held (kind_byte r.kind) r.first r.second ∷ [])) (holding o k (threads_of o k (node_held (kind_byte r.kind) r.first r.second)))) long
            (table_next (nodes_in nodes i) o (node_held (kind_byte r.kind) r.first r.second) table lower (omega (arith, long)) room.counts room.threads
            (omega (arith, count, ap (λ (k : ℕ). length (threads_of o k (node_held (kind_byte r.kind) r.first r.second))) long))))

        few_threads : b.count ≤ max_threads → opens_to_many (nodes_in nodes i) (node_held (kind_byte r.kind) r.first r.second) ≡ false
        few_threads h = ap (ltb max_threads) (sym (count ∙ threads)) ∙ le-ltb max_threads b.count h

        read : b.count ≤ max_threads → node_at facts rules n s (nodes_in nodes i) at ≡ got (node_held (kind_byte r.kind) r.first r.second) r.next
        read h = rw (checked, fields_got, few_threads h)

-- ---- the table after the node is opened and stored
module _ (facts : ℕ) (rules : List Rule) (n : ℕ) (s : List ℕ) (v : List ℕ) (i at : ℕ) (table : NodeTable (nodes_in (nodes_of v) i) v)
    (r : NodeFields) (found : NodeFound facts rules n i s at (Ok r))
    (total : ℕ) (u : List ℕ) (opened : OpenedAs v i (node_held (kind_byte r.kind) r.first r.second) total u) (small : i < max_nodes) (room : length v ≡ table_end) where
  abbrev x : Node
  x = node_held (kind_byte r.kind) r.first r.second

  abbrev ns : List Node
  ns = nodes_in (nodes_of v) i

  size : length ns ≡ i
  size = tabulate_length (node_in (nodes_of v)) i

  pub next_few : total ≤ max_threads → (w : List ℕ) → NodePut u i (kind_byte r.kind) r.first r.second w → NextNode facts rules n s v i at w r.next
  next_few h w put =
      let names = next_fits facts rules n s (nodes_of v) (opened_of v) i at table.opened r found in
      let low : LowerNames (length ns) x = subst (λ (k : ℕ). LowerNames k x) (sym size) names.0 in
      let b : OpenedNode = record { count = total; opened = opened_of u } in
      let held : OpenedTable (ns ++ (x ∷ [])) (opened_of u) =
      tabled facts rules n s (nodes_of v) (opened_of v) i at table.opened r found b opened.opened small (room_of v room) h in
      let kept : nodes_of w ≡ with_node (nodes_of v) i (kind_byte r.kind) r.first r.second =
      put.nodes ∙ ap (λ (m : Nodes). with_node m i (kind_byte r.kind) r.first r.second) opened.nodes in
      let more : nodes_in (nodes_of w) (i + 1) ≡ ns ++ (x ∷ []) =
      ap (λ (m : Nodes). nodes_in m (i + 1)) kept
      ∙ added facts rules n s (nodes_of v) (opened_of v) i at table.opened r found b opened.opened small (room_of v room) in
      let long-marks : length (movables_of v) ≡ max_nodes = simp (length-take, length-drop) (omega arith) in
      let marked : movables_of w ≡ set (movables_of v) (length ns) (mark_for (movables_of v) x) =
      put.marks
      ∙ ap (λ (l : List ℕ). set l i (mark_for l x)) opened.movables
      ∙ ap (λ (k : ℕ). set (movables_of v) k (mark_for (movables_of v) x)) (sym size) in
      let marks : MovableHeld (ns ++ (x ∷ [])) (length ns + 1) (movables_of w) =
      subst (MovableHeld (ns ++ (x ∷ [])) (length ns + 1)) (sym marked)
      (marks_next ns x (movables_of v) table.opened.ranked low table.marks (omega (arith, long-marks, size))) in
      record {
        node = x;
        reading = read facts rules n s (nodes_of v) (opened_of v) i at table.opened r found b opened.opened small (room_of v room) h;
        nodes = more;
        table =
            subst (λ (ms : List Node). NodeTable ms w) (sym more)
            (record {
              opened = subst (OpenedTable (ns ++ (x ∷ []))) (sym put.opened) held;
              marks = subst (λ (k : ℕ). MovableHeld (ns ++ (x ∷ [])) k (movables_of w)) (sym (length-append ns (x ∷ []))) marks;
            });
        long = put.long ∙ opened.long ∙ room;
        within = names.1;
      }
