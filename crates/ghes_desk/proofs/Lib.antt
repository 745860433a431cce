mod CacheLemmas
pub mod OutcomeLemmas
pub mod RangeLemmas
mod RoomLemmas
