pub use Rattle.movable_nodes.specs.NodeTables
pub mod FirstFields
pub mod NodesFound
pub mod StoredNode
pub mod NextNodeLaws
pub mod NodesSoFar
