pub mod Packed
pub mod Table
