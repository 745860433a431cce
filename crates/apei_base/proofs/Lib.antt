pub mod CutLemmas
pub mod FirmwareLemmas
pub mod OnLiterals
pub mod Samples
pub mod SeenLemmas
pub mod TableLemmas
