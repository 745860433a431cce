pub mod Body
pub mod Bytes
pub mod Entry
pub mod Grown
pub mod Report
pub mod Section
