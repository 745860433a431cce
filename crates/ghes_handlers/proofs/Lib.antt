pub mod Apart
pub mod Chaining
pub mod CountLemmas
pub mod TagLemmas
pub mod ToldLemmas
