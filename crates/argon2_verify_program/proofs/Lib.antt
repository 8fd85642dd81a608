-- What each refusal leaves.
mod Ends
