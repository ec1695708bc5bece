-- Auxiliary definitions for proofs about the code.
pub mod Framing
