pub mod Program
pub mod steps
pub use Rattle.compile_function.specs.compile_passes as compile_passes
pub use Rattle.compile_function.specs.compile_theorem as compile_theorem
pub use Rattle.compile_function.specs.dce_pass as dce_pass
pub use Rattle.compile_function.specs.dwarf_sections as dwarf_sections
pub use Rattle.compile_function.specs.dwarf_unit as dwarf_unit
pub use Rattle.compile_function.specs.inline_subroutines as inline_subroutines
pub use Rattle.compile_function.specs.listing_function as listing_function
pub use Rattle.compile_function.specs.listing_meaning as listing_meaning
pub use Rattle.compile_function.specs.listing_proof as listing_proof
pub use Rattle.compile_function.specs.location_ranges as location_ranges
pub use Rattle.compile_function.specs.machine_steps_proof as machine_steps_proof
pub use Rattle.compile_function.specs.pass_manager as pass_manager
pub use Rattle.compile_function.specs.read_program as read_program
pub use Rattle.compile_function.specs.read_proof as read_proof
pub use Rattle.compile_function.specs.scan_pass as scan_pass
