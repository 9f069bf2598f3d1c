pub mod Built
pub mod Desks
pub mod Digests
pub mod Permute
pub mod Piles
