pub mod SliceLines
pub mod Sides
pub mod Places
pub mod Written
pub mod Blocks
pub mod Lent
pub mod Laws
pub mod Lines
