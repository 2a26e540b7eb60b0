pub mod Items
pub mod Picked
pub mod Legal
pub mod Making
