pub mod Spread
pub use Rattle.dataflow.specs as dataflow
