pub mod Calls
pub mod Object
pub use Rattle.listing_meaning.specs as listing_meaning
