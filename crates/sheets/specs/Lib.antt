pub mod Sheet
pub mod Fault
pub mod Held
pub mod Reading
pub mod Laws
