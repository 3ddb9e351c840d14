pub mod Changes
pub mod Closing
pub mod Turns
pub mod Pictures
