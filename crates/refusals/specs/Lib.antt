pub mod Number
pub mod Advice
