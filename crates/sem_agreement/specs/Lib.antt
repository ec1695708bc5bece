pub mod Agreement
pub mod Laws
pub use Rattle.sem_simulation.specs.sem_mir as sem_mir
pub use Rattle.sem_simulation.specs as sem_simulation
