pub mod Values
pub mod Few
pub mod Listed
pub mod Located
pub mod Pushed
pub mod Refused
pub use Rattle.compile_passes.proofs.AfterPasses
pub use Rattle.compile_passes.proofs.compile_theorem as compile_theorem
pub use Rattle.dwarf_sections.proofs.dwarf_line_table as dwarf_line_table
pub use Rattle.dwarf_sections.proofs.inline_subroutines as inline_subroutines
pub use Rattle.compile_passes.proofs.listing_function as listing_function
pub use Rattle.compile_passes.proofs.listing_meaning as listing_meaning
pub use Rattle.compile_passes.proofs.listing_proof as listing_proof
pub use Rattle.compile_passes.proofs.machine_steps_proof as machine_steps_proof
pub use Rattle.compile_passes.proofs.scan_pass as scan_pass
