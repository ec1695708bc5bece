pub mod Auipc
pub mod Load
pub mod steps
