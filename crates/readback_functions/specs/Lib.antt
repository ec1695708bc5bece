pub mod Document
pub mod Declared
pub mod Pools
pub mod Frame
pub mod Known
pub mod Printed
pub mod Stripped
pub mod Bytes
pub use Rattle.read_proof.specs as read_proof
pub use Rattle.readback_items.specs as readback_items
