pub mod Roots
pub mod Copied
pub mod Next
pub use Rattle.pass_salvage.specs as pass_salvage
