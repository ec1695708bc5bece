pub mod SpellingLemmas
pub mod OneReading
