pub mod DigestBytes
pub mod Giving
pub mod OutputsJoin
pub mod PiecesJoin
pub mod Published
pub mod WholeSession
