pub mod Refinement
pub mod Order
pub mod Stations
pub mod Stops
pub mod Outcomes
pub mod Between
pub mod Bypassed
pub mod Rewired
pub mod Idle
pub mod Beside
pub mod InPlace
pub mod Written
pub mod Ahead
pub mod Joined
pub mod Added
pub mod Turns
pub mod Words
pub mod Laid
pub use Rattle.sem_mir.proofs.mir_func as mir_func
pub use Rattle.sem_mir.proofs as sem_mir
