pub mod Layout
pub mod Platform
pub mod Raise
