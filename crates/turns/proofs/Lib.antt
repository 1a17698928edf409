pub mod Around
pub mod Turning
