mod BetweenLemmas
pub mod LawfulLemmas
mod SoundLemmas
mod SummaryLemmas
mod TurnLemmas
