-- The words of scrypt: what they say, and what they ask for.
pub mod CommandLine
pub mod Words
pub mod Request
pub mod Vectors
pub mod Inside
