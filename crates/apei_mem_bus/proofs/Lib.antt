pub mod ApartLemmas
pub mod CellLemmas
pub mod DeterminedLemmas
pub mod ShownLemmas
