pub mod Events
pub mod Records
pub mod Places
pub mod Captures
