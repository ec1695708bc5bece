pub mod Number
pub mod Word
pub mod Register
pub mod Sentence
