pub mod Apart
pub mod Filtered
pub mod Once
pub mod Laid
pub mod Fixed
pub mod Ends
pub mod Checks
pub mod Stripping
pub mod Ways
pub mod Descents
pub mod Leading
pub mod Passed
pub use Rattle.rv64_instr.proofs as rv64_instr
