-- Lemmas, by topic.
pub mod Arguments
