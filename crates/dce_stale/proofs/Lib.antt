pub mod Handing
pub mod Exact
pub mod Steps
pub mod Visits
pub use Rattle.dce_analysis.proofs.dce_rule as dce_rule
