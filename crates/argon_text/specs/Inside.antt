-- Definitions that private contracts and proofs cite; no public contract reaches them.
pub mod Base64Fault
pub mod Capped
pub mod FieldsRead
pub mod Steps
