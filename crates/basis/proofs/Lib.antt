pub mod Building
pub mod Eliminating
pub mod Insertion
pub mod Parts
