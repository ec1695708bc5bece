pub mod Refinement
pub mod MatchStates
pub mod InPlace
pub mod Added
pub mod Rewired
pub mod Words
pub use Rattle.sem_mir.specs.mir_func as mir_func
pub use Rattle.sem_mir.specs.rv64_instr as rv64_instr
pub use Rattle.sem_mir.specs as sem_mir
