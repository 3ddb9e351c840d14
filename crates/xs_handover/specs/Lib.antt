pub mod Headers
pub mod Blocks
pub mod Decoded
pub mod Passes
pub mod Handing
pub mod Answers
pub mod Sources
