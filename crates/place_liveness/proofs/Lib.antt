mod Walked
mod Splits
mod Lives
mod Listed
mod Those
mod Renews
mod Settles
