-- The words of argon2: what they say, what they ask for, and how they are refused.
pub mod Items
pub mod ItemView
pub mod Settings
pub mod Request
pub mod RequestView
pub mod Refusal
pub mod Laws
