pub mod Adding
pub mod Lists
pub mod Numbers
pub mod Readings
pub mod Sizes
pub mod Placing
