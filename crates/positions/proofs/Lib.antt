mod Growing
mod Items
mod Overlaps
mod Meeting
mod OneWay
mod Downward
mod Uppermost
mod Marks
mod Remainders
mod Fresh
pub mod Reading
pub mod Closing
