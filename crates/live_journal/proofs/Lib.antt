pub mod Computing
mod CaptureLemmas
