pub mod OnSession
pub mod OnTypes
pub mod Lines
