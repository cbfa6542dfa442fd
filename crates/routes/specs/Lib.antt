pub mod Tests
pub mod Order
pub mod Groups
pub mod Decomposition
pub mod Members
