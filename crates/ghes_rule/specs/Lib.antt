pub mod Finds
pub mod Kept
pub mod Moves
pub mod Rule
pub mod Seen
pub mod Taken
