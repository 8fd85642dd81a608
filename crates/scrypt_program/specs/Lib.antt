-- What the program scrypt comes to over a system.
pub mod Program
