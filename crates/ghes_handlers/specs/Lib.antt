pub mod Closing
pub mod Deliveries
pub mod Registering
pub mod Severities
pub mod Told
