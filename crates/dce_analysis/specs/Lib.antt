pub mod Judge
pub use Rattle.dce_rule.specs as dce_rule
pub use Rattle.dce_rule.specs.pass_trait as pass_trait
