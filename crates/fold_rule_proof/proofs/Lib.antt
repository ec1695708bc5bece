pub mod One
pub mod RuleAlike
pub mod Stripped
pub mod Staying
pub mod Rows
pub mod Tails
pub mod Numbers
pub mod Blocks
pub mod Sound
pub mod StepAlike
pub mod Kills
pub mod KillSound
pub use Rattle.pass_trait.proofs as pass_trait
