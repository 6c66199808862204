pub mod IdLemmas
pub mod ValueLemmas
pub mod BodyLemmas
pub mod SessionLaws
pub mod ShowLaws
pub mod PickLaws
pub mod Computing
pub mod ShownExamples
