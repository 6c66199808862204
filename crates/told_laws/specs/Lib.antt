pub mod Among
pub mod Walking
pub mod Example
