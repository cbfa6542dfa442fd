pub mod Lines
pub mod Bounds
