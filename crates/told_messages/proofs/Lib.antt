pub mod Computing
pub mod RecordLemmas
mod PuttingLemmas
pub mod ShowingLemmas
