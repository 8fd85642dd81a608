-- What a run of scrypt is asked for, and how it may be refused.
pub mod Refusal
pub mod Request
