pub mod Block
pub mod Cut
pub mod Entry
pub mod Header
pub mod Image
pub mod Reason
pub mod Severity
pub mod Text
