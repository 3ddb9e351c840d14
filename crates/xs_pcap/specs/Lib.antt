pub mod Numbers
pub mod File
pub mod Datagram
pub mod Unwrapped
pub mod Wrapped
pub mod Laws
