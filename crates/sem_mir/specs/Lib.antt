pub mod State
pub mod Step
pub mod Align
pub mod InitialState
pub mod Follow
pub mod ValueId
pub mod PreferredLocation
pub mod Live
pub mod Effects
pub mod Itself
pub use Rattle.mir_func.specs as mir_func
pub use Rattle.mir_func.specs.rv64_instr as rv64_instr
