pub mod Order
pub mod Table
pub mod Leaves
pub mod Example
