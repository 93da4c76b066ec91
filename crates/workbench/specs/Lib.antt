pub mod Runs
pub mod Reached
pub mod Ran
pub mod Law
