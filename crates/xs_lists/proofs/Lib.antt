pub mod Bits
pub mod Each
pub mod Cut
pub mod Walk
pub mod FieldBits
pub mod Packing
pub mod Bitwise
pub mod Listing
pub mod Ranges
pub mod Puts
mod FirstRows
