pub mod Change
pub mod Simulation
pub mod Code
pub mod Order
pub mod Rule
pub mod Causes
pub mod Debug
pub mod Steps
pub mod Sizes
pub mod Laws
pub mod Nops
pub mod Tests
pub use Rattle.sem_simulation.specs.mir_func as mir_func
pub use Rattle.mir_substitution.specs as mir_substitution
pub use Rattle.sem_simulation.specs.sem_mir as sem_mir
pub use Rattle.sem_simulation.specs as sem_simulation
