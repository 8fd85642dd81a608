-- What the words of both commands have in common.
pub mod Answer
pub mod Number
