pub mod Eight
