pub mod ChecksumLaws
pub mod PacketLaws
pub mod CaptureComputing
pub mod EscapingLaws
pub mod LineLaws
pub mod CalendarLemmas
pub mod Computing
mod FileLemmas
mod DraftLemmas
