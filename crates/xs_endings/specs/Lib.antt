pub mod Ends
pub mod Said
pub mod Endings
pub mod Steps
pub mod Turns
