pub mod Format
pub mod Operation
pub mod MachineOp
pub mod Decoded
pub mod Codes
pub mod MachineRow
pub mod Lowering
pub mod Linked
