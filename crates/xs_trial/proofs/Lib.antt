mod Rows
mod Drawing
pub mod Mixing
mod Comparing
