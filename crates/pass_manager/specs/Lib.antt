pub mod Passes
pub mod Told
pub mod Shown
pub mod Exposed
pub use Rattle.dce_pass.specs as dce_pass
