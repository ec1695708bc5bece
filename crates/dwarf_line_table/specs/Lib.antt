pub mod Files
pub mod SourcePosition
pub mod Program
pub mod Table
pub mod steps
pub mod Rows
pub mod Laws
pub use Rattle.emit_code.specs as emit_code
