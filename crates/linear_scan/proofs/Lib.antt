mod Scanned
mod Decided
mod Physical
pub mod Shown
pub use Rattle.scan_pass.proofs as scan_pass
