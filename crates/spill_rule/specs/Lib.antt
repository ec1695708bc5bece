pub mod Choice
pub mod Rule
pub mod Laws
pub mod Chosen
pub mod Follows
pub mod steps
pub use Rattle.pass_trait.specs as pass_trait
pub use Rattle.spill_simulation.specs.spill_code as spill_code
pub use Rattle.spill_simulation.specs as spill_simulation
