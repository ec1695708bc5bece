pub mod Encoding
pub mod Number
pub mod Text
pub mod Token
pub mod Field
pub mod Kind
pub mod Line
pub mod Definition
pub mod Maps
pub mod Metadata
pub use Rattle.read_lexer.specs as read_lexer
