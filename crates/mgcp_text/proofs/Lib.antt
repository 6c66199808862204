pub mod SpellingLaws
pub mod EndedLemmas
pub mod IdLemmas
pub mod AnswerLemmas
pub mod ValueLaws
pub mod MemoryLemmas
pub mod WholeLemmas
pub mod RoundLaws
pub mod Computing
pub mod SplitLemmas
pub mod PartLemmas
pub mod PartingLaws
pub mod PackingLaws
pub mod GroupLaws
pub mod PiggybackComputing
mod JoinLemmas
