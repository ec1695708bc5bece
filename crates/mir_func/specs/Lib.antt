pub mod Limits
pub mod Parts
pub mod Variables
pub mod Objects
pub mod Positions
pub mod Function
pub mod Exits
pub mod Calls
pub mod Sound
pub mod SoundFrame
pub mod Graph
pub mod Resolve
pub mod Strip
pub mod Successors
pub mod steps
pub use Rattle.rv64_instr.specs as rv64_instr
