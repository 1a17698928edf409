pub mod Entries
pub mod Room
pub mod Adding
pub mod Copying
