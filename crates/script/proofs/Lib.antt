mod Blanks
mod Digits
mod Replies
mod PartTexts
mod PlainRuns
