pub mod Source
pub mod OutputProperties
pub mod Words
pub mod Compiled
pub mod Laws
pub use Rattle.dwarf_unit.specs as dwarf_unit
pub use Rattle.listing_meaning.specs as listing_meaning
pub use Rattle.location_ranges.specs as location_ranges
