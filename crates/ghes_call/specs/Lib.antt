pub mod Buffer
pub mod Call
pub mod Packet
pub mod Receive
