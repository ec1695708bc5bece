pub mod Stands
pub mod Covered
pub mod Turning
pub mod Lists
pub mod Laws
pub mod steps
pub use Rattle.location_of_variable.specs as location_of_variable
