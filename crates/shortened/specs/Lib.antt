pub mod Marks
pub mod Setting
pub mod Unhidden
pub mod Fits
pub mod ListedSent
pub mod Begun
pub mod MarkLaws
pub mod ShortCode
