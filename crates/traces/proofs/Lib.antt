pub mod Computing
pub mod ShowLemmas
pub mod RunLaws
pub mod StartComputing
