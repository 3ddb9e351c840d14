pub mod Held
pub mod Bands
pub mod Parts
pub mod Read
