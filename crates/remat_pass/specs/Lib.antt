pub mod Known
pub mod Remat
pub mod Table
pub mod Laws
pub mod Partly
pub mod Pass
