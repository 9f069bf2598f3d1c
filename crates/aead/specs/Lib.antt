pub mod Blocks
pub mod Bytes
pub mod Calls
pub mod Cipher
pub mod Data
pub mod Laws
pub mod Values
