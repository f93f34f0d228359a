pub mod Rounded
pub mod Cleared
pub mod Ranges
pub mod Table
pub mod SettingOut
