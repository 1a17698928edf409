pub mod Lengths
pub mod LengthLaws
pub mod Elements
pub mod ElementLaws
pub mod Bits
pub mod BitLaws
