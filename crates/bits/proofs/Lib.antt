mod Digits
mod Tallies
pub mod Laws
mod Words
mod Changes
mod Unions
mod Walk
pub mod RowItems
