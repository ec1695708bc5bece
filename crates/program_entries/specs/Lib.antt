pub mod Declarations
pub mod Variables
pub mod Functions
pub mod Program
