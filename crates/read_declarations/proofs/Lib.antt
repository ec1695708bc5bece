pub mod Streams
pub mod Walks
pub mod Ids
pub mod Keys
pub mod Limits
pub mod Runs
pub mod PoolEntries
pub mod Once
