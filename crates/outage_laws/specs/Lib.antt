pub mod Alone
pub mod Carrying
pub mod AfterOutage
pub mod Example
pub mod Lives
pub mod Apart
pub mod LifeExample
pub mod LawExample
