pub mod Numbered
pub mod Shown
pub mod States
