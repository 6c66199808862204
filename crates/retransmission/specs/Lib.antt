pub mod Sends
pub mod Flight
pub mod Life
pub mod Issued
pub mod PendingExample
pub mod Restarting
pub mod RestartExample
