pub mod Player
pub mod Ending
