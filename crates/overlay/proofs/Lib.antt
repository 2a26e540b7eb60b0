pub mod Lower
pub mod Renewing
