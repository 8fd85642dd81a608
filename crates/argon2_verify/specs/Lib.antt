-- The command argon2-verify: its words, what it reads, and what a run comes to.
pub mod Refusal
pub mod Request
pub mod Hash
pub mod Reading
pub mod Memory
pub mod Run
pub mod Laws
pub mod Inside
