pub mod Computing
pub mod CountLemmas
pub mod SentCountLemmas
pub mod PlaceLemmas
pub mod WaitingLemmas
