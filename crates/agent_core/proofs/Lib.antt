pub mod EndLemmas
pub mod PostLemmas
pub mod DeliveryLemmas
pub mod OpenLemmas
pub mod TickLemmas
pub mod RunLemmas
