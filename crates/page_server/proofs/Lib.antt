pub mod Computing
pub mod AnsweringLaws
pub mod FieldLemmas
pub mod VisitLemmas
pub mod ReceivingLemmas
pub mod CrowdLemmas
