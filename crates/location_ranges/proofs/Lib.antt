pub mod Standing
pub mod Turning
pub mod Saying
pub mod Looking
pub mod Walking
pub mod OneList
pub mod Still
pub mod Resting
