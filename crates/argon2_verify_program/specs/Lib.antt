-- What the program argon2-verify comes to over a system.
pub mod Program
