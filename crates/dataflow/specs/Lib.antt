pub mod Graph
pub mod Fixpoint
