pub mod Bytes
pub mod Facts
pub mod Frame
pub mod Laws
pub mod Reading
pub mod Values
