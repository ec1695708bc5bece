pub mod Index
pub mod Sets
pub mod Walk
pub mod Steps
pub mod Liveness
pub mod Solving
pub use Rattle.mir_func.specs as mir_func
pub use Rattle.rv64_instr.specs as rv64_instr
pub use Rattle.sem_mir.specs as sem_mir
