pub mod ElementLemmas
pub mod CodeLemmas
