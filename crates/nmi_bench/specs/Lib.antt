pub mod Calling
pub mod Memory
pub mod MemoryLaws
