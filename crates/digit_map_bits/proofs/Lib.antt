pub mod PlaceLaws
pub mod MarkLaws
pub mod BitLaws
pub mod BlockLaws
pub mod LoopLaws
pub mod CompiledLaws
