pub mod MaySpill
pub mod Follows
pub use Rattle.spill_code.specs as spill_code
