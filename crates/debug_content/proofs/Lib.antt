pub mod Parts
pub mod Unit
