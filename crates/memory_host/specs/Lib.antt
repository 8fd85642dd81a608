-- What contracts see of a host in memory.
pub mod Memory
pub mod Calls
pub mod Inside
