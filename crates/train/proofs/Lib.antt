pub mod Stores
pub mod Taken
