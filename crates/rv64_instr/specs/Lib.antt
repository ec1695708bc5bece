pub mod Mnemonic
pub mod Instruction
pub mod Form
pub mod Arithmetic
pub mod Inverse
pub mod Linked
pub mod Row
pub mod View
pub mod DefsAndUses
pub mod Decoded
pub mod LocationEffects
pub mod Reserve
pub mod steps
pub use Rattle.base_ids.specs as base_ids
