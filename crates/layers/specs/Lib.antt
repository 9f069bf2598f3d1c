pub mod Chosen
pub mod Metered
