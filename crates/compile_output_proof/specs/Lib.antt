pub mod Laws
pub mod Lines
pub mod Inlined
pub use Rattle.compile_program.specs.compile_passes as compile_passes
pub use Rattle.compile_program.specs.dce_pass as dce_pass
pub use Rattle.compile_program.specs.listing_proof as listing_proof
pub use Rattle.compile_program.specs.pass_manager as pass_manager
pub use Rattle.compile_program.specs.scan_pass as scan_pass
