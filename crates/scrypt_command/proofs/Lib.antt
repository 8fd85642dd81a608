-- Lemmas, by topic.
pub mod BackAgain
pub mod Endings
pub mod Existence
pub mod OtherBytes
pub mod WholeRuns
