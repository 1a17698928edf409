pub mod Decoding
pub mod CodeWord
pub mod Exists
pub mod Places
pub mod Repair
pub mod Turned
