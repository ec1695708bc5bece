pub mod Left
pub mod Round
pub use Rattle.dce_stale.specs.dce_analysis as dce_analysis
pub use Rattle.pass_liveness.specs as pass_liveness
