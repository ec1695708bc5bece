pub mod FirstFault
pub mod steps
