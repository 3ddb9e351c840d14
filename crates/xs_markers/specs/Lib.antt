pub mod Fields
pub mod Values
pub mod Seen
pub mod Segments
pub mod Reading
pub mod Units
pub mod Read
pub mod Laws
