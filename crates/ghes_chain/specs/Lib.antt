pub mod Gather
pub mod Push
pub mod Take
