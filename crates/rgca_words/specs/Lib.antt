pub mod Statuses
pub mod Endings
pub mod Texts
pub mod Names
pub mod Words
