pub mod Waits
pub mod Worklist
pub mod Comparison
