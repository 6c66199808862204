pub mod SentCounting
pub mod Counting
pub mod Waiting
pub mod Places
pub mod Tallying
pub mod Reporting
pub mod Example
pub mod SentExample
