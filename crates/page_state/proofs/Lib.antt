pub mod BoardComputing
pub mod KeepingLemmas
pub mod MetricsComputing
pub mod ShowingLemmas
