pub mod Refusal
pub mod Lines
pub mod Refusing
pub mod Falling
pub mod Turning
pub mod Rules
