pub mod PlayLemmas
pub mod Computing
