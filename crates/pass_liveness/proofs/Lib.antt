pub mod Bits
pub mod Uniting
pub mod Indices
pub mod Places
pub mod Edges
pub mod Paths
pub mod Walking
pub mod Facts
pub mod Blocks
pub mod Visits
pub mod Answers
pub mod Ready
pub mod Stripped
mod Passing
pub use Rattle.mir_func.proofs as mir_func
pub use Rattle.sem_mir.proofs as sem_mir
