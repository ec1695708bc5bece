pub mod LostMarks
pub mod Grown
pub mod AskedSound
pub mod Silenced
pub mod Numbers
