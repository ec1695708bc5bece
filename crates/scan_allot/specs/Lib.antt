pub mod Silent
pub mod Losses
pub mod Allotted
pub use Rattle.scan_stale.specs.scan_choice.Given
pub use Rattle.scan_debug.specs.Laws
pub use Rattle.scan_debug.specs.scan_rule.Rewrite
pub use Rattle.scan_debug.specs.scan_rule.Silence
pub use Rattle.scan_debug.specs.scan_rule.Step
pub use Rattle.pass_losses.specs as pass_losses
pub use Rattle.scan_stale.specs.scan_liveness as scan_liveness
