pub mod Forms
pub mod Plain
