pub mod Once
pub mod SameTypes
pub mod SameTerms
pub mod Entry
pub mod Growth
pub mod Entries
pub mod Inverse
pub mod Fullness
