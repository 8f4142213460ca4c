pub mod Meaning
pub mod Shown
pub mod Rules
