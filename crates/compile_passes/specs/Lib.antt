pub mod Passed
pub mod steps
pub use Rattle.compile_theorem.specs as compile_theorem
pub use Rattle.pass_manager.specs.dce_pass as dce_pass
pub use Rattle.listing_proof.specs.listing_function as listing_function
pub use Rattle.compile_theorem.specs.listing_meaning as listing_meaning
pub use Rattle.listing_proof.specs as listing_proof
pub use Rattle.compile_theorem.specs.location_ranges as location_ranges
pub use Rattle.listing_proof.specs.machine_steps_proof as machine_steps_proof
pub use Rattle.pass_manager.specs as pass_manager
pub use Rattle.listing_proof.specs.read_body as read_body
pub use Rattle.listing_proof.specs.read_program as read_program
pub use Rattle.listing_proof.specs.read_proof as read_proof
pub use Rattle.linear_scan.specs.scan_pass as scan_pass
