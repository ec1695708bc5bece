pub mod Beside
pub mod Laid
pub mod Pointer
pub mod Steps
pub mod Places
pub mod Contents
pub mod Images
pub use Rattle.sem_machine.specs as sem_machine
pub use Rattle.sem_mir.specs as sem_mir
pub use Rattle.sem_value_ids.specs as sem_value_ids
