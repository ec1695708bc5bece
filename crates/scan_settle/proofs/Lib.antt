pub mod Made
pub use Rattle.spill_pass.proofs as spill_pass
