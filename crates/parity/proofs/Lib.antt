pub mod Summing
pub mod OfCode
