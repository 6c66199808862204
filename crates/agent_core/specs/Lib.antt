pub mod World
pub mod StepRefusal
pub mod WorldStands
pub mod WorldWork
pub mod WorldTicks
pub mod Delivering
