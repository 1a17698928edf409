pub mod Halves
pub mod Coefficients
