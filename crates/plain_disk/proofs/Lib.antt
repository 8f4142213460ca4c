mod Fresh
mod Turns
