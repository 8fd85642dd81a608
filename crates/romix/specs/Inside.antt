-- Definitions that private contracts and proofs cite; no public contract reaches them.
pub mod Diagonals
pub mod Lanes
pub mod Table
pub mod WipedWords
