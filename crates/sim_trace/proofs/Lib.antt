pub mod Searching
pub mod Turns
pub mod Places
pub mod Listed
pub mod Lifting
pub mod Stops
pub use Rattle.sim_proof.proofs as sim_proof
