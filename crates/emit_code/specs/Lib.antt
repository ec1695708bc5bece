pub mod LongBranch
pub mod Rule
pub mod BranchRelaxation
pub mod Listed
pub mod Counts
pub mod Laid
pub mod steps
