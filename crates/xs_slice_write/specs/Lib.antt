pub mod Written
pub mod Coded
