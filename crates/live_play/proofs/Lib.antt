pub mod RunLemmas
pub mod ExampleLemmas
