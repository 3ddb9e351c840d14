pub mod Reading
pub mod Passes
pub mod Answers
