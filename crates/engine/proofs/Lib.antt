pub mod Laws
pub mod Spending
pub mod WordCount
