pub mod Raw
pub mod Rows
