mod Tails
mod Walks
