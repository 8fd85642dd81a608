-- Definitions that private contracts and proofs cite; no public contract reaches them.
pub mod Numbers
pub mod StreamState
pub mod Stream
pub mod Settings
pub mod File
