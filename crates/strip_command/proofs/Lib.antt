pub use Rattle.read_program.proofs as read_program
