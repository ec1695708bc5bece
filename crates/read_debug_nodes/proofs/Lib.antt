pub mod Runs
pub mod Pieces
pub mod Keys
pub mod Numbers
pub mod Elements
pub mod Maps
