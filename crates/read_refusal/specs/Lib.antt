pub mod Kind
pub mod First
