mod Tests
pub mod Rights
pub mod Views
