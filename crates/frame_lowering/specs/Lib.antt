pub mod steps
pub use Rattle.frame_rule.specs as frame_rule
