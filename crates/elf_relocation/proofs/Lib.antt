pub mod Patches
pub mod FieldLemmas
pub mod AppliedLemmas
