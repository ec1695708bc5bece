pub mod Flow
pub mod Sets
pub use Rattle.dce_analysis.specs as dce_analysis
pub use Rattle.dce_analysis.specs.dce_rule as dce_rule
pub use Rattle.dce_analysis.specs.pass_trait as pass_trait
