pub mod Words
pub mod Chart
pub mod Pause
