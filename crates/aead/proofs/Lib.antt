mod Blocks
mod Bytes
mod CallLaws
pub mod Inverse
mod Made
mod Opens
mod Outcomes
mod Parts
mod Published
mod Same
mod Seals
mod Xor
