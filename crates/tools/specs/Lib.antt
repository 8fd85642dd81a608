-- What contracts see of a system, and of the host that is made of it.
pub mod Identity
pub mod Words
pub mod SystemState
pub mod Failures
pub mod RunState
pub mod Streams
pub mod Steps
