pub mod Suffixes
pub mod Search
