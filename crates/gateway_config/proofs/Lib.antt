pub mod ConfigLemmas
pub mod HostLemmas
pub mod FlawLemmas
pub mod PieceLemmas
pub mod WordingLemmas
pub mod Computing
mod SettingsLemmas
