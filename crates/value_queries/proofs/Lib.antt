mod Asking
mod Sitting
mod Told
mod Kept
mod Fit
