pub mod Host
pub mod Loads
pub mod MemFiles
pub mod MemSink
pub mod Outside
pub mod Text
