-- The command scrypt: what a run comes to, for its words and a host.
pub mod Run
pub mod Endings
pub mod Laws
