pub mod Alike
pub mod Alone
