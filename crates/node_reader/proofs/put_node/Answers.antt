-- `put_node` stores the bytes of a node, each in its column.
use Rattle.std.proofs.Common.{◌≡◌, Bool, true, false, refl, ap, ◌∙◌}
use Rattle.std.specs.Int.{from_bool}
use Rattle.sheet_types.specs.KindBytes.{kind_byte}
use Rattle.movable_nodes.specs.Movability.{mark}
use Rattle.node_reader.specs.StoredNode.{node_put}
use Rattle.node_reader.proofs.put_node.Goals as goal

marks : (b : Bool) → from_bool b ≡ mark b
marks true = refl
marks false = refl

pub returns : goal.returns
returns c =
    let a = c.args in
    let m = c.movable_of_kind-moves in
    rw c.from.ensures
    (node_put a.table.now a.k (kind_byte a.kind) a.first a.second _ c.requires.0 c.requires.2 (c.from-2.ensures ∙ marks m.result ∙ ap mark m.ensures))
