pub mod TallyingLemmas
pub mod TypingLemmas
pub mod SendingLemmas
pub mod HandingLemmas
pub mod SettlingLemmas
pub mod TickingLemmas
pub mod ServingLemmas
pub mod DatagramLemmas
