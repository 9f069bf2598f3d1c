pub mod Apart
pub mod Claimed
pub mod Framed
pub mod Numbers
pub mod Taken
