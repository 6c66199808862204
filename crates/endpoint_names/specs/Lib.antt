pub mod Route
pub mod RouteExample
pub mod Fixed
pub mod Name
pub mod Table
pub mod Entity
pub mod Examples
