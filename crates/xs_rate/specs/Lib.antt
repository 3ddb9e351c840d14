pub mod Coefficients
pub mod Content
pub mod Modes
pub mod Chosen
pub mod Laws
pub mod Choice
pub mod Encoding
pub mod Encoded
