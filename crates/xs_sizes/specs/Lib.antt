pub mod Lengths
pub mod Cut
pub mod LineSizes
pub mod Precincts
pub mod Counted
pub mod Measured
pub mod Packed
pub mod Stepped
