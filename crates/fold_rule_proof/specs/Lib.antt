pub mod Strips
pub mod Alike
pub mod Kills
pub mod KilledSound
pub use Rattle.fold_rule.specs as fold_rule
