pub mod Classes
pub mod PreferredByClass
pub mod Kept
pub use Rattle.sem_value_ids.specs as sem_value_ids
