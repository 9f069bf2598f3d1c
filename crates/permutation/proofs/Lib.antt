pub mod Bits
pub mod Bitwise
pub mod Gathered
pub mod Rotation
pub mod Sbox
pub mod Values
pub mod WordCount
