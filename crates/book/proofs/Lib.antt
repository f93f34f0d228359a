pub mod Parts
pub mod Bytes
pub mod Copied
pub mod ReadBack
