pub mod Found
pub mod Sliced
pub mod Pieces
