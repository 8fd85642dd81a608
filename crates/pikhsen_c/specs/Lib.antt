-- What a program in C gives and what it is answered: the numbers of answers, and for each call when it answers which.
pub mod Status
pub mod Message
pub mod Argon2
pub mod Scrypt
pub mod File
pub mod StreamBox
pub mod Stream
pub mod Heap
pub mod Settings
pub mod Texts
pub mod Inside
