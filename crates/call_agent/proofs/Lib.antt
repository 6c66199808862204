pub mod EventLemmas
pub mod AgentStands
pub mod TellingLemmas
pub mod PassLemmas
pub mod WorkLemmas
pub mod HearingLemmas
pub mod StandLemmas
pub mod FlightTable
