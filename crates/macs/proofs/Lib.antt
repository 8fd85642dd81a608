pub mod Blocks
pub mod Keys
pub mod Parts
