pub mod Beginning
pub mod CallLaws
pub mod Handing
pub mod Making
pub mod Refusing
pub mod Rounding
