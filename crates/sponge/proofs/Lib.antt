pub mod Bytewise
pub mod Joining
pub mod Placing
pub mod Squeezed
pub mod Taking
