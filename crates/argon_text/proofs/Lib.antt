-- Lemmas, by topic.
pub mod KnownText
pub mod Cutting
pub mod TakingApart
pub mod Numbers
pub mod Symbols
pub mod Readings
pub mod Answering
pub mod RangeFaults
