mod Laws
pub mod OldSheet
