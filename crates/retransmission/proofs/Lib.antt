pub mod FlightLaws
pub mod LifeLaws
pub mod Computing
