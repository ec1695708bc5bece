pub mod Runs
pub mod Places
pub mod Assignments
pub mod Alignment
pub mod Edges
pub mod Sources
pub mod Outcomes
pub mod Effects
pub mod Implicit
pub mod Parts
pub mod Told
pub mod Reading
pub mod Range
pub mod InRange
pub use Rattle.mir_func.proofs as mir_func
pub use Rattle.mir_func.proofs.rv64_instr as rv64_instr
