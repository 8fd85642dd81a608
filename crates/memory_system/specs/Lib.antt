-- What contracts see of a system in memory.
pub mod Memory
pub mod Numbers
