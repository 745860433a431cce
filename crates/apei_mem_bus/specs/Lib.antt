pub mod Attempts
pub mod BusLaws
pub mod Failures
pub mod Faulty
pub mod FaultyLaws
pub mod MemBus
pub mod OneSource
