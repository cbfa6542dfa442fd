pub mod Accepted
pub mod Judged
pub mod Sections
pub mod Stages
pub mod Verdicts
pub mod Causes
pub mod Runs
