pub mod Subprogram
pub mod Subroutines
pub mod Laws
pub mod steps
pub use Rattle.inline_instances.specs as inline_instances
