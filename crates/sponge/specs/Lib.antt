pub mod Held
pub mod Sponge
pub mod Steps
