pub mod Areas
mod Boxes
mod Gains
mod Joined
pub mod Refusals
pub mod InRange
mod Rows
pub mod HeaderWeights
pub mod Accepted
