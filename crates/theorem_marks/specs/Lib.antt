pub mod Stand
pub mod Starts
