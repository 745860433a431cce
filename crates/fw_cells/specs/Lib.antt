pub mod Changes
pub mod Mapping
pub mod Parts
pub mod Runs
pub mod Spans
