pub mod Faults
pub mod Told
pub mod Calls
pub mod Memory
pub mod Reading
pub mod Standard
