pub mod Backlog
pub mod Recording
pub mod Written
pub mod Reasons
pub mod Example
