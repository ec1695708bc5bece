pub mod Registers
pub mod Extents
pub mod Described
pub mod Liveness
pub use Rattle.pass_trait.specs as pass_trait
pub use Rattle.scan_allocation.specs as scan_allocation
pub use Rattle.scan_intervals.specs as scan_intervals
