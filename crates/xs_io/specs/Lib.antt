pub mod Bytes
pub mod Causes
pub mod Gates
pub mod Memories
pub mod Streams
