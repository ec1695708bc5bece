mod Behind
mod Changed
mod Sound
mod Sizes
mod Stripping
mod Debug
mod Follows
