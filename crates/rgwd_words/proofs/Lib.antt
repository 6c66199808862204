pub mod Computing
pub mod EndingLemmas
