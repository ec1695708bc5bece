pub mod Accepted
pub mod AfterPasses
pub mod Scan
pub use Rattle.compile_theorem.proofs as compile_theorem
pub use Rattle.listing_proof.proofs.listing_function as listing_function
pub use Rattle.compile_theorem.proofs.listing_meaning as listing_meaning
pub use Rattle.listing_proof.proofs as listing_proof
pub use Rattle.listing_proof.proofs.machine_steps_proof as machine_steps_proof
pub use Rattle.linear_scan.proofs.scan_pass as scan_pass
