pub mod ChainLemmas
pub mod GatherLemmas
pub mod Popped
