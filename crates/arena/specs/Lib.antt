pub mod Rows
pub mod Arenas
pub mod Renewal
