pub mod Day
pub mod Sheet
pub mod Steps
