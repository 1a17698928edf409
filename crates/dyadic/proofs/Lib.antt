pub mod Adding
pub mod Halving
pub mod Inverse
pub mod Laws
pub mod Stages
pub mod Sums
pub mod Quotients
