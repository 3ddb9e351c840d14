pub mod Parts
pub mod Columns
pub mod Level
pub mod Chain
pub mod Shown
