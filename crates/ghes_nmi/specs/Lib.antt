pub mod Receive
pub mod Steps
