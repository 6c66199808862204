pub mod PayloadLemmas
pub mod NumberLemmas
pub mod SpellingLaws
pub mod DecimalLemmas
pub mod AsideLaws
pub mod WrittenLaws
pub mod Computing
pub mod WholeLemmas
