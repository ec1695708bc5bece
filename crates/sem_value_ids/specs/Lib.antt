pub mod Trace
pub mod Pullback
pub mod Parts
pub use Rattle.sem_mir.specs as sem_mir
