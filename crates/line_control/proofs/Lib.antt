pub mod Computing
pub mod ShowingLemmas
pub mod TurnLemmas
pub mod WaitingLemmas
