pub mod Trees
pub mod TermTrees
pub mod Sound
pub mod Lawful
