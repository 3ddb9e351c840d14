pub mod Found
pub mod Selected
pub mod WholeUnits
pub mod Copies
pub mod Missing
