pub mod Values
pub mod Evaluation
pub mod Worked
pub mod Laws
pub mod Promises
