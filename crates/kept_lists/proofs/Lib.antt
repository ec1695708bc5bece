mod Resolving
mod Appended
