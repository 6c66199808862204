pub mod Computing
pub mod ScheduleLaws
