-- Definitions that private contracts and proofs cite; no public contract reaches them.
pub mod Decrypting
pub mod Encrypting
pub mod Front
pub mod Steps
