pub mod Items
pub mod Outcomes
pub mod Printed
pub mod Writing
