pub mod Payloads
pub mod Fields
pub mod Reading
pub mod Spelling
pub mod Writing
pub mod Example
