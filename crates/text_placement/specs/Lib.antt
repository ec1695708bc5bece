pub mod Goes
pub mod Placed
