pub mod Horner
pub mod Loops
pub mod Values
pub mod Turns
