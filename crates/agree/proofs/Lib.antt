pub mod Same
pub mod Parts
pub mod Turns
pub mod Calls
