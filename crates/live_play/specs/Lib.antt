pub mod Coming
pub mod Running
pub mod Keeping
pub mod Readable
pub mod Example
