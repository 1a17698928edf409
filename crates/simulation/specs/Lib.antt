pub mod Steps
pub mod Ride
pub mod Answers
pub mod Parts
pub mod Lent
pub mod LentLaws
pub mod Lending
