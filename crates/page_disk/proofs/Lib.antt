pub mod Counted
pub mod Fresh
pub mod Turns
pub mod WornOut
pub mod Entries
