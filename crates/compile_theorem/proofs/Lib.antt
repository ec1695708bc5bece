pub mod OneWanted
pub mod Telling
pub mod Variables
pub mod Framing
pub mod Passed
pub mod Exact
pub mod Functions
pub mod Headline
pub mod LaidOut
pub mod Alike
pub mod IsExact
pub mod Addresses
pub mod Lowering
pub mod HaveWords
pub mod Codes
pub use Rattle.listing_meaning.proofs as listing_meaning
