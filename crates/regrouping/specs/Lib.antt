pub mod Table
pub mod Steps
pub mod Taking
pub mod Pairs
pub mod Laws
pub mod Examples
