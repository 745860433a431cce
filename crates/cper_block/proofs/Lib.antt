pub mod BlockLemmas
pub mod CutLemmas
pub mod EntryLemmas
pub mod ImageLemmas
pub mod JoinedLemmas
pub mod LawLemmas
pub mod PartLemmas
pub mod ReasonLemmas
