pub mod SendingLemmas
pub mod CameLemmas
pub mod HearingLemmas
pub mod PassingLemmas
pub mod CountingLemmas
pub mod EndingLemmas
pub mod OpeningLemmas
pub mod FrameLemmas
pub mod DeskLemmas
pub mod AnsweringLemmas
pub mod TurningLemmas
pub mod LineLemmas
pub mod PageLemmas
mod ArrivingLemmas
mod AdmittingLemmas
pub mod ArrivalLemmas
pub mod OverLemmas
