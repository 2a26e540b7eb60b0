pub mod Parts
pub mod Belonging
pub mod Determinism
pub mod Places
pub mod Tables
pub mod Asking
pub mod Worked
