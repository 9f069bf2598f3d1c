pub mod Allowance
pub mod Facts
pub mod Meaning
pub mod Of
pub mod Runs
