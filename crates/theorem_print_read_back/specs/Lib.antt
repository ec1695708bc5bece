pub mod Substitutions
pub mod Printed
