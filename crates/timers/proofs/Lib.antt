pub mod OrderLemmas
pub mod LeastLemmas
pub mod TableLaws
pub mod TreeLemmas
pub mod LeavesLemmas
pub mod Computing
