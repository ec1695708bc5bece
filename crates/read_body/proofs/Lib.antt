pub mod Sets
pub mod Entries
pub mod FixedObjects
pub use Rattle.read_declarations.proofs as read_declarations
