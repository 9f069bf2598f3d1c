pub mod Bits
pub mod Equations
pub mod OneColumn
pub mod Permutation
pub mod Values
