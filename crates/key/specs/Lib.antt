pub mod Deriving
pub mod Steps
