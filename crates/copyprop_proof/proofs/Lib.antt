pub mod Known
pub mod Acts
pub mod RootedKind
pub mod ReplacedUsesMatch
pub mod Renamed
pub mod RemovedCopyMatch
pub mod TakeOut
pub mod Chain
pub mod Selfed
pub mod Stores
pub mod Follows
pub mod Lines
pub mod Becomes
pub mod Entries
pub mod Kept
pub use Rattle.copyprop_rule.proofs as copyprop_rule
