pub mod Limits
pub mod Compiled
pub mod FurtherPromises
pub mod Lines
pub mod Stream
pub mod Answer
pub mod Run
pub mod Refusals
pub mod steps
pub use Rattle.selftest_command.specs.run_command.Program
pub use Rattle.compile_output_proof.specs.compile_passes as compile_passes
pub use Rattle.compile_output_proof.specs.dce_pass as dce_pass
pub use Rattle.compile_output_proof.specs.pass_manager as pass_manager
pub use Rattle.compile_output_proof.specs.scan_pass as scan_pass
