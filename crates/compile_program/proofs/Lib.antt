pub mod Listed
pub mod Behind
pub mod Compiled
pub mod Passed
pub mod Described
pub use Rattle.compile_function.proofs.AfterPasses
pub use Rattle.compile_function.proofs.Located
pub use Rattle.compile_function.proofs.compile_theorem as compile_theorem
pub use Rattle.compile_function.proofs.inline_subroutines as inline_subroutines
pub use Rattle.compile_function.proofs.listing_function as listing_function
pub use Rattle.compile_function.proofs.listing_meaning as listing_meaning
pub use Rattle.compile_function.proofs.listing_proof as listing_proof
pub use Rattle.compile_function.proofs.machine_steps_proof as machine_steps_proof
pub use Rattle.compile_function.proofs.scan_pass as scan_pass
