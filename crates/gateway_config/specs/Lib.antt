pub mod SettingsSeen
pub mod Flaws
pub mod Bounds
pub mod Ports
pub mod Pieces
pub mod AgentWording
pub mod NamesWording
pub mod Wording
