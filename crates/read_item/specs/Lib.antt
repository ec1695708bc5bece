pub mod Opcode
pub mod Place
pub mod Code
pub mod Address
pub mod Debug
pub mod Judge
