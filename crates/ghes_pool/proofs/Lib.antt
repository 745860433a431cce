pub mod FindsLemmas
pub mod Popped
