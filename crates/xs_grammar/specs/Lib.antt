pub mod Packet
pub mod Precinct
pub mod Slice
pub mod Header
pub mod Codestream
pub mod Coded
pub mod Sizes
pub mod Laws
