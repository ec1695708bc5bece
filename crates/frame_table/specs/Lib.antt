pub mod Table
pub mod Laws
pub use Rattle.emit_code.specs as emit_code
