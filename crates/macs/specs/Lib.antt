pub mod Hmac
pub mod HmacSha256
pub mod KeyPair
pub mod Pbkdf2
