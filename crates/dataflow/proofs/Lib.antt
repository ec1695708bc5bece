pub mod Pushed
pub mod Preds
pub mod Sweeps
