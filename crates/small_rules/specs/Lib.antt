pub mod Rules
pub mod Numbering
pub mod Counting
