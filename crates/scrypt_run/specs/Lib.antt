-- What a run of scrypt comes to.
pub mod Refusal
pub mod Admission
pub mod Steps
pub mod Front
pub mod Passphrase
pub mod Text
pub mod Encrypting
pub mod Decrypting
pub mod Inspecting
pub mod Work
pub mod Asking
pub mod Run
pub mod Laws
pub mod Vectors
pub mod Inside
