pub mod Laws
pub mod Program
pub use Rattle.read_proof.specs.read_program as read_program
