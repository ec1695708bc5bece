pub mod Emitted
pub mod Fault
pub use Rattle.compile_passes.specs.Passed
pub use Rattle.compile_passes.specs as compile_passes
pub use Rattle.compile_passes.specs.compile_theorem as compile_theorem
pub use Rattle.compile_passes.specs.dce_pass as dce_pass
pub use Rattle.dwarf_sections.specs.dwarf_line_table as dwarf_line_table
pub use Rattle.dwarf_sections.specs as dwarf_sections
pub use Rattle.dwarf_sections.specs.dwarf_unit as dwarf_unit
pub use Rattle.dwarf_sections.specs.inline_subroutines as inline_subroutines
pub use Rattle.compile_passes.specs.listing_function as listing_function
pub use Rattle.compile_passes.specs.listing_meaning as listing_meaning
pub use Rattle.compile_passes.specs.listing_proof as listing_proof
pub use Rattle.compile_passes.specs.location_ranges as location_ranges
pub use Rattle.compile_passes.specs.machine_steps_proof as machine_steps_proof
pub use Rattle.compile_passes.specs.pass_manager as pass_manager
pub use Rattle.pass_trait.specs as pass_trait
pub use Rattle.compile_passes.specs.read_body as read_body
pub use Rattle.compile_passes.specs.read_program as read_program
pub use Rattle.compile_passes.specs.read_proof as read_proof
pub use Rattle.compile_passes.specs.scan_pass as scan_pass
