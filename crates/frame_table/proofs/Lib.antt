pub mod Distances
pub mod Standing
pub mod Said
pub mod Writable
pub mod Shown
pub mod Going
