pub mod Entry
pub mod Numbering
pub mod PairNumbers
pub mod ClassNumbers
pub mod Joining
pub mod Hands
pub mod Flows
pub mod Invariants
