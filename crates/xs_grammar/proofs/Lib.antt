pub mod Written
pub mod Coded
pub mod CodedStream
pub mod Sizes
pub mod OnePacket
pub mod Bands
pub mod OneSlice
pub mod Local
pub mod OneHeader
pub mod OneStream
mod Examples
mod Grey
mod GreyCoded
