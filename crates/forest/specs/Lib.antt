pub mod Forests
pub mod Faults
pub mod Stores
