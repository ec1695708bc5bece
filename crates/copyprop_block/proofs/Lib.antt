mod Lists
mod Fronts
pub mod Forms
pub use Rattle.pass_salvage.proofs as pass_salvage
