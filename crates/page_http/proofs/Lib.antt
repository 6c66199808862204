pub mod AnswerComputing
pub mod TellingLemmas
mod ValuesLemmas
pub mod AccessComputing
pub mod AskingLaws
pub mod SeatingLaws
