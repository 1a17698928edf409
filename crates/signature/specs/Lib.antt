pub mod Signature
pub mod Existence
pub mod Offsets
pub mod Pigeonhole
pub mod Tests
pub mod TestLaws
pub mod Inverses
