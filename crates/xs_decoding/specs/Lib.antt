pub mod Decoded
pub mod Laws
