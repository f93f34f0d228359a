mod Measure
pub mod Closing
pub mod Exact
