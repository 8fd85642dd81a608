pub mod AsBox
pub mod FrontStatus
