pub mod Below
pub mod Tables
pub mod Built
pub mod Asked
pub mod Filling
pub mod Life
pub mod Right
