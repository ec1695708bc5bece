pub mod Variables
pub mod Laid
pub mod Printable
pub mod Laws
pub mod steps
pub use Rattle.listing_text.specs as listing_text
pub use Rattle.listing_meaning.specs.machine_steps_proof as machine_steps_proof
