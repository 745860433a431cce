pub mod Layout
pub mod Port
pub mod Source
pub mod SourceLaws
