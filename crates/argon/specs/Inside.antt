-- Definitions that private contracts and proofs cite; no public contract reaches them.
pub mod FourWords
pub mod WipedBlocks
pub mod NextSlice
pub mod Places
pub mod Planning
pub mod Segment
