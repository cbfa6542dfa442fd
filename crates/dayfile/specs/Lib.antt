pub mod Verdict
pub mod Layout
pub mod Tables
pub mod Check
pub mod Records
pub mod Reading
