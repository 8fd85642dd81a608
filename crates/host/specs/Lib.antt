-- What contracts see of a host, and what each call leaves of it.
pub mod HostState
pub mod AskedSource
pub mod Faults
pub mod CallsGrantedByHost
pub mod Secret
pub mod FirstLine
pub mod Lines
pub mod Input
pub mod Output
pub mod Entries
pub mod Vectors
