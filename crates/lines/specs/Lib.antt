pub mod Text
pub mod Line
pub mod Parts
