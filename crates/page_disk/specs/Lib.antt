pub mod Table
pub mod Pages
pub mod Wear
pub mod Paged
pub mod Runs
pub mod Laws
