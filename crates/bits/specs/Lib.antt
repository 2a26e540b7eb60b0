pub mod Bits
pub mod Items
