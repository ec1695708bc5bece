pub mod Stripped
pub mod Sound
pub mod Follows
pub mod Whole
pub mod WholeLaws
pub mod JoinedLaws
pub mod Sizes
pub mod Alive
pub mod Step
pub mod StepLaws
pub mod Become
pub mod Causes
pub mod Kept
pub use Rattle.pass_salvage.specs as pass_salvage
pub use Rattle.pass_trait.specs as pass_trait
pub use Rattle.spill_debug.specs as spill_debug
pub use Rattle.spill_select.specs.spill_rule as spill_rule
pub use Rattle.spill_select.specs as spill_select
