mod MemoryLoops
pub mod Rows
pub mod Inputs
pub mod Ends
pub mod RunLoops
pub mod Marking
pub mod Laying
pub mod History
pub mod Numbers
pub mod Inside
pub mod Stepping
pub mod Again
