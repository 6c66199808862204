pub mod Telling
pub mod Head
pub mod Replaying
pub mod Example
pub mod Running
pub mod Writing
pub mod Words
pub mod Waiting
