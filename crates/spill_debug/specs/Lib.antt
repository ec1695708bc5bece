pub mod RewrittenDebugItems
pub mod Lost
pub mod Laws
