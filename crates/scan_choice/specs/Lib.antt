pub mod Given
pub use Rattle.scan_liveness.specs.scan_allocation as scan_allocation
pub use Rattle.scan_liveness.specs as scan_liveness
