pub mod Read
pub mod Unit
