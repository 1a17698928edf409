pub mod Accepted
pub mod Calls
pub mod Faults
pub mod Stored
