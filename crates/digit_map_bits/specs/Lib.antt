pub mod Places
pub mod Blocks
