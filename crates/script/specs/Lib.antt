pub mod Calls
pub mod Patterns
pub mod Forms
pub mod Lines
