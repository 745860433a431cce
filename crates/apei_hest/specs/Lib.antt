pub mod Admitted
pub mod Hest
pub mod Refusal
pub mod Sound
pub mod Source
pub mod Structure
pub mod Text
