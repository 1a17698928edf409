pub mod Wire
pub mod Readings
