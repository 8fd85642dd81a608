-- Lemmas, by topic.
pub mod Asking
pub mod Decrypting
pub mod Encrypting
pub mod Ends
pub mod Fronts
pub mod Keeping
pub mod Openings
pub mod Passing
pub mod Refusals
pub mod Successes
pub mod Working
