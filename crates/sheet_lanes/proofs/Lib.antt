pub mod Limits
pub mod Rolls
