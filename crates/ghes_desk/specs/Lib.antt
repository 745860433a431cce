pub mod Cache
pub mod Call
pub mod Desk
pub mod Found
pub mod Pending
pub mod Port
