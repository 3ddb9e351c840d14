pub mod Bits
pub mod Packing
pub mod Spelling
pub mod Laws
pub mod First
pub mod Ascending
pub mod Fields
