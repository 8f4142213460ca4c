pub mod Join
pub mod Laws
