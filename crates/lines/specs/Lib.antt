pub mod Listing
pub mod Lengths
