pub mod Same
pub mod Sameness
pub mod Agree
pub mod Answers
pub mod Lowest
pub mod Acceptance
