pub mod Dead
pub mod Wrong
pub mod Gone
pub mod RemovalDebugRule
pub mod Rounds
pub mod Same
pub mod CodeLaws
pub use Rattle.pass_trait.specs as pass_trait
