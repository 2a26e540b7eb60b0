pub mod Lists
pub mod Numbers
pub mod Bytes
pub mod Words
pub mod Rows
pub mod Reading
