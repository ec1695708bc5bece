pub mod Blocks
pub mod Scopes
pub mod Made
pub mod Ordered
pub use Rattle.inline_instances.proofs as inline_instances
