-- Definitions that private contracts cite; no public contract reaches them.
pub mod Opened
