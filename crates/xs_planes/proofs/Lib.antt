pub mod Groups
pub mod Signs
pub mod Columns
pub mod Levels
pub mod Places
pub mod Gather
pub mod Spread
