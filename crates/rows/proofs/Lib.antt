pub mod Firsts
pub mod Made
pub mod Options
pub mod Puts
pub mod Sets
