-- Lemmas, by topic.
pub mod Existence
mod Refusals
