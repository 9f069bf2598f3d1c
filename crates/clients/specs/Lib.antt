pub mod Loans
pub mod States
