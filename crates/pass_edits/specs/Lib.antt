pub mod WeakSimulation
pub mod NumberLaws
pub mod Edits
pub use Rattle.pass_salvage.specs.sem_agreement as sem_agreement
