pub mod Replay
pub mod Example
pub mod Handed
pub mod TurnExample
pub mod WayExample
pub mod CallTurns
pub mod CallExample
pub mod LawExample
