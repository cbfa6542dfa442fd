pub mod Laws
pub mod Vector
pub mod Measure
pub mod Cursor
pub mod Labelled
pub mod Line
