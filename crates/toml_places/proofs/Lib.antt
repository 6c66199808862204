pub mod Computing
pub mod Counting
