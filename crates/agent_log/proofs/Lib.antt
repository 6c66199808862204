pub mod Computing
pub mod TellingLemmas
mod PuttingLemmas
mod NotingLemmas
