pub mod Text
pub mod Passed
pub mod Compiled
pub mod OutputAlone
pub mod RunAlone
