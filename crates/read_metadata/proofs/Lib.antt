pub mod Numbers
pub mod Texts
pub mod Pieces
pub mod Values
pub mod Runs
pub mod Firsts
pub mod MapLemmas
pub mod Lines
