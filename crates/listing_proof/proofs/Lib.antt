pub mod Framed
pub use Rattle.listing_function.proofs as listing_function
pub use Rattle.listing_function.proofs.machine_steps_proof as machine_steps_proof
