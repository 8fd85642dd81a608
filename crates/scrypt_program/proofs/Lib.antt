-- Lemmas, by topic.
mod Ends
mod Existence
mod OtherSystems
