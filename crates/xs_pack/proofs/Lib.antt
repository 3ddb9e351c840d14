pub mod Members
pub mod Pieces
pub mod Offered
pub mod Arrived
pub mod Units
pub mod Cutting
