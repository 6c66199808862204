pub mod Computing
pub mod Handles
pub mod Boxing
pub mod LongLemmas
pub mod PortLemmas
