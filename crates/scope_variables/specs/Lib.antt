pub mod Nodes
pub mod Scope
pub mod Order
pub mod Variables
pub mod Laws
pub mod steps
