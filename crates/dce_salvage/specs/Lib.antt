pub mod SalvageNumbers
pub mod SalvageBlocks
