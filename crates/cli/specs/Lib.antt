pub mod Options
pub mod Command
pub mod Status
pub mod Fault
