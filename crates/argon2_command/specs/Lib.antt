-- The command argon2: what it writes, and what a run comes to.
pub mod Output
pub mod MemoryRequestEffects
pub mod RunAsking
pub mod Run
pub mod Inside
