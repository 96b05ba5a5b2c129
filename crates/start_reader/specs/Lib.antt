pub use Rattle.node_opening.specs.OpenedNodes
pub use Rattle.set_closure.specs.SheetBytes
pub mod OpenedThreads
pub mod ThreadsFound
pub mod StartFound
pub mod StartsFound
