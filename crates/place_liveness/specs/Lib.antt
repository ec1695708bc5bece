pub mod Alone
pub mod Renewal
