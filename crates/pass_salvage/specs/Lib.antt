pub mod Fresh
pub mod SalvageAction
pub mod Salvage
pub mod Above
pub mod Lookup
pub use Rattle.pass_trait.specs as pass_trait
pub use Rattle.sem_agreement.specs as sem_agreement
pub use Rattle.sem_agreement.specs.sem_mir as sem_mir
