pub mod Raised
mod Factors
mod Steps
