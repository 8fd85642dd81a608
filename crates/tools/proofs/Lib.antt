-- What loops keep.
mod Parts
-- What comes of calls that fail.
mod Failing
-- What is left at the end of a run.
pub mod Ends
