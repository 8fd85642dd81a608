-- What the program argon2 comes to over a system.
pub mod Program
