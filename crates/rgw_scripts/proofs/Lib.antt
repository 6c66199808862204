pub mod WholeInput
pub mod PartLemmas
pub mod MoveLemmas
pub mod JudgedLemmas
pub mod HexLemmas
pub mod ScriptLaws
pub mod Computing
