pub mod Outgoing
pub mod Parts
pub mod Sent
