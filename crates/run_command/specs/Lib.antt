pub mod Runs
pub mod Source
pub use Rattle.compile_program.specs.Program
pub use Rattle.compile_program.specs.compile_theorem as compile_theorem
pub use Rattle.compile_program.specs.dwarf_unit as dwarf_unit
pub use Rattle.compile_program.specs.listing_meaning as listing_meaning
pub use Rattle.compile_program.specs.pass_manager as pass_manager
pub use Rattle.sim_start.specs as sim_start
