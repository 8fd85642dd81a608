pub mod Aes
pub mod CounterMode
pub mod Planes
pub mod Inside
