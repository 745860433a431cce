mod DigitLemmas
mod FieldLemmas
mod GrownLemmas
pub mod Joining
pub mod OwnBytes
mod ShownLemmas
mod WholeLemmas
