pub mod Laws
pub mod OldSheet
