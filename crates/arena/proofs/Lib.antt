pub mod Builds
pub mod Reading
pub mod Trees
