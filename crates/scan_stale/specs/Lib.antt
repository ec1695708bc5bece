pub mod Flow
pub mod Written
pub mod Shared
pub mod Sets
pub use Rattle.scan_choice.specs as scan_choice
pub use Rattle.scan_choice.specs.scan_liveness as scan_liveness
