pub mod Slots
pub mod Places
pub mod Plain
pub mod Laws
