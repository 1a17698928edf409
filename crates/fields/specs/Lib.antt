pub mod Fields
pub mod Written
pub mod Over
pub mod Reading
pub mod Ends
