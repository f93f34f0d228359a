pub mod Cabin
