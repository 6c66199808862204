pub mod RouteLemmas
pub mod RouteComputing
pub mod FixedLemmas
pub mod LineLemmas
pub mod WrittenLemmas
pub mod Computing
