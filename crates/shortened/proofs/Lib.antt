pub mod Beginning
pub mod BegunLaws
pub mod ListedSentLaws
pub mod Marking
pub mod NothingHidden
pub mod SettingLaws
pub mod ShortMatrix
pub mod Shortening
