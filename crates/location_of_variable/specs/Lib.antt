pub mod Groups
pub mod VariableLocation
pub mod Gives
pub mod steps
pub use Rattle.sem_mir.specs as sem_mir
