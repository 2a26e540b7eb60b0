pub mod Calls
pub mod History
