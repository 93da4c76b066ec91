pub mod Reach
pub mod Turns
pub mod Lawful
pub mod LawOfRuns
