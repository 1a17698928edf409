pub mod Printing
pub mod Values
