mod AreaLemmas
pub mod FoundLemmas
mod WidthLemmas
