pub mod Standing
pub mod Children
pub mod Loading
pub mod Legal
