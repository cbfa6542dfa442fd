pub mod Firsts
pub mod Lists
pub mod Orders
pub mod Decompositions
pub mod Notes
