-- Lemmas, by topic.
pub mod FirstLines
pub mod Pulls
pub mod Pushes
