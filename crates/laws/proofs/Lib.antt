pub mod Limits
pub mod Lost
pub mod Still
