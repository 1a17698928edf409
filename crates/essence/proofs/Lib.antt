pub mod ChoiceLaws
pub mod Choosing
pub mod ChosenLaws
pub mod Converting
pub mod EssenceLaws
pub mod ShapeLaws
pub mod Shaped
pub mod Storing
