pub mod Added
pub mod Index
pub mod Forest
pub mod Chain
pub use Rattle.mir_func.specs as mir_func
