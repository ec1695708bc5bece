pub mod Program
pub mod Stand
