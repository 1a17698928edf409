pub mod Beginning
pub mod ChoiceLaws
pub mod ListedLaws
pub mod Naming
pub mod Offsets
