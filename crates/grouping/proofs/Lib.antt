pub mod Accepts
pub mod Drafts
pub mod Turns
pub mod Searches
