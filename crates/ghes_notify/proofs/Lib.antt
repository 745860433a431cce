pub mod Ordering
pub mod Falling
