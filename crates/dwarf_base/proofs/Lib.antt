pub mod LebLemmas
pub mod LebLaws
pub mod FrontLemmas
