pub mod Precincts
pub mod Units
