pub mod Numbers
pub mod Counts
pub mod Pairs
pub mod Parts
pub mod Cabin
