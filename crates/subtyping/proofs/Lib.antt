mod Growing
mod Following
mod Meaning
