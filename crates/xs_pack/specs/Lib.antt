pub mod Datagrams
pub mod Packing
pub mod Sent
pub mod Laws
