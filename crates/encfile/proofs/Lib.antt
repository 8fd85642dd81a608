pub mod Files
pub mod Fronts
pub mod Headers
pub mod Pieces
pub mod Reading
