pub mod Computing
pub mod BacklogLaws
pub mod WrittenLemmas
