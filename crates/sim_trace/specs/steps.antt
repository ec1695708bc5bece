pub mod Readable
pub mod Printed
