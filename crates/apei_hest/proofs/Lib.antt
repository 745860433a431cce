mod OnLiterals
pub mod JudgeLemmas
pub mod KnownLemmas
pub mod LawLemmas
pub mod RefusalLemmas
pub mod SoundLemmas
pub mod StructureLemmas
pub mod TotalLemmas
pub mod WalkLemmas
