pub mod Rows
pub mod Signals
