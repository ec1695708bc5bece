pub mod Composition
mod Growth
pub mod Thinning
mod NopRuns
pub mod NopFollows
pub mod NopSound
mod NopCode
pub mod NopSizes
pub mod NopDebug
pub mod InPlaceMap
mod LostNumbers
pub mod Results
pub use Rattle.mir_substitution.proofs as mir_substitution
pub use Rattle.sem_simulation.proofs.sem_mir as sem_mir
pub use Rattle.sem_simulation.proofs as sem_simulation
