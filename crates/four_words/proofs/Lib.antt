-- Lemmas, by topic.
pub mod FourWords
pub mod Runs
