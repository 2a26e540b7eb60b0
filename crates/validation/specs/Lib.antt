pub mod Matching
pub mod Walking
pub mod Validating
