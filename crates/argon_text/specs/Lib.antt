-- Encoded texts: the value and its ranges, its text, the grammar that all texts have, how one is read, and what the
-- test of a password answers.
pub mod Value
pub mod EncodedText
pub mod Base64
pub mod Grammar
pub mod Reading
pub mod View
pub mod Answer
pub mod Verifying
pub mod Settings
pub mod Vectors
pub mod Inside
