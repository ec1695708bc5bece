pub mod Strips
pub mod Alike
pub mod Drops
pub mod Sizes
pub mod Settled
pub mod Coded
pub mod Alone
