pub mod Cache
pub mod History
pub mod Reports
pub mod Shown
