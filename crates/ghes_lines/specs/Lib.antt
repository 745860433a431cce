pub mod Follows
pub mod Injector
pub mod Lines
pub mod Machine
pub mod Midway
pub mod Run
