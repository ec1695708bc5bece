pub mod Kept
pub mod Calls
pub mod Shown
pub mod Running
pub mod Departures
pub mod Machines
pub mod Values
pub mod steps
