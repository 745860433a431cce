pub mod Chain
pub mod Delivery
pub mod Order
