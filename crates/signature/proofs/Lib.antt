pub mod Scan
pub mod Inverses
pub mod Inverting
pub mod Stored
