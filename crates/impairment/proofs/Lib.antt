pub mod Computing
pub mod WaitingLemmas
pub mod PassingLaws
pub mod NamingLaws
pub mod WayLaws
