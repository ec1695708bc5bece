pub mod Renamed
pub mod RemovalLaws
pub mod Ledger
pub mod Rule
pub mod DebugLaws
pub use Rattle.copyprop_block.specs as copyprop_block
pub use Rattle.copyprop_rule.specs as copyprop_rule
