pub mod Injecting
pub mod Machine
pub mod Ports
pub mod Rig
pub mod Settings
