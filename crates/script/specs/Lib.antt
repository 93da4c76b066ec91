pub mod AnswerText
pub mod Basics
pub mod Decimal
pub mod Forms
pub mod Held
pub mod Print
pub mod Sessions
pub mod Skipped
