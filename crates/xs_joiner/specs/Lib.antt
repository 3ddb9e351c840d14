pub mod Units
pub mod Source
pub mod Columns
pub mod Level
pub mod Counts
pub mod Chain
pub mod Midway
pub mod Near
