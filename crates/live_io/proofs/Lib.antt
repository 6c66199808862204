pub mod Computing
pub mod TypingLemmas
pub mod TrafficLemmas
pub mod SpeakingLemmas
pub mod WaitingLemmas
