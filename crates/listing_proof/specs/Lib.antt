pub mod Laws
pub use Rattle.listing_function.specs as listing_function
pub use Rattle.listing_function.specs.listing_text as listing_text
pub use Rattle.listing_function.specs.machine_steps_proof as machine_steps_proof
pub use Rattle.mir_printer.specs as mir_printer
pub use Rattle.read_proof.specs.read_body as read_body
pub use Rattle.read_proof.specs.read_program as read_program
pub use Rattle.read_proof.specs as read_proof
