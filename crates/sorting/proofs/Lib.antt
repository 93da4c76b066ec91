pub mod Orders
pub mod Lists
pub mod Sorting
pub mod Pigeonhole
mod Turns
