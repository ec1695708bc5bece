mod Set
pub mod Down
mod Offs
mod Moved
pub mod Still
