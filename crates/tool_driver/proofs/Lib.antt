pub mod Pieces
pub mod OneProgram
pub mod Sentences
pub mod Lines
pub mod AnswerLemmas
pub mod RunLemmas
pub mod Kept
pub mod Stripped
pub mod Generated
pub mod Written
pub mod Plans
mod Inputs
pub use Rattle.gen_sizes.proofs.Frames
pub use Rattle.gen_sizes.proofs.Registers
pub use Rattle.gen_sizes.proofs.Sections
pub use Rattle.compile_output_proof.proofs.scan_pass as scan_pass
