pub mod Decoding
pub mod Demand
pub mod Errors
pub mod Found
pub mod SameRepair
pub mod Search
pub mod TurnedLaws
