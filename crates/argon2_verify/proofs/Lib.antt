-- Lemmas, by topic.
mod BehindLine
pub mod Ends
mod Existence
mod KnownHash
mod Lines
mod OneEnd
mod OwnInput
mod TextLengths
