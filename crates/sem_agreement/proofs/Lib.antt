pub mod Outcomes
pub mod Held
pub mod Told
pub mod Items
pub mod Views
