pub mod Lists
pub mod Adding
pub mod Caching
pub mod Places
pub mod Ruling
