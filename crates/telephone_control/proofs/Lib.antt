pub mod Computing
pub mod AskingLemmas
pub mod LostLemmas
pub mod SeeingLemmas
pub mod ShowingLemmas
pub mod PagingLemmas
pub mod WatchingLemmas
pub mod WatchExampleLemmas
