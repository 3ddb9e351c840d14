pub mod Generator
pub mod Steps
pub mod Comparison
