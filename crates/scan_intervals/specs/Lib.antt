pub mod Liveness
pub mod Points
pub mod Intervals
pub mod Blocked
pub use Rattle.pass_liveness.specs as pass_liveness
pub use Rattle.pass_trait.specs as pass_trait
pub use Rattle.pass_liveness.specs.sem_mir as sem_mir
