pub mod Customizations
pub mod Functions
pub mod Laws
pub mod Phases
pub mod Sessions
pub mod Values
