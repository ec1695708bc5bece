mod CallSteps
mod Patches
mod Relocated
mod Addresses
