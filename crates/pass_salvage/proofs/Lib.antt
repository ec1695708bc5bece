pub mod Greatest
pub mod Found
pub mod Chosen
pub mod Placed
pub mod Kin
pub mod Edits
pub mod EditRuns
pub mod EditPaths
pub mod EditFollows
pub mod NumberOff
pub mod OneMore
pub mod NumberPhi
pub mod Follows
pub mod Last
pub mod Indexed
pub mod Going
pub use Rattle.pass_trait.proofs.mir_substitution as mir_substitution
pub use Rattle.pass_trait.proofs as pass_trait
pub use Rattle.sem_agreement.proofs as sem_agreement
