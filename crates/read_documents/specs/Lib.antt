pub mod Lines
pub mod Key
pub mod Documents
pub mod steps
