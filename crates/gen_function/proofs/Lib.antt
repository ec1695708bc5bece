pub mod Placing
pub mod Given
pub mod Plain
pub mod Ends
pub mod Rising
pub mod Sound
