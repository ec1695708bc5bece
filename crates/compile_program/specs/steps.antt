pub mod CompilationState
pub mod Described
