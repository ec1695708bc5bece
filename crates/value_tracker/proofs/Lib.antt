pub mod Indexing
pub mod Chaining
pub mod Places
pub mod Rows
pub mod Items
pub mod Giving
pub mod Starting
pub mod Constants
pub mod FirstLocations
pub mod Entering
pub use Rattle.value_proof.proofs as value_proof
