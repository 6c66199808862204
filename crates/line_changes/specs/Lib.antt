pub mod Seen
pub mod Changes
pub mod Telling
pub mod Watching
pub mod Example
