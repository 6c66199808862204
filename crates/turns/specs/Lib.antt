pub mod Circle
pub mod Clock
pub mod Schedule
pub mod Runs
pub mod Example
