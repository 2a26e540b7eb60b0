pub mod Bodies
pub mod Law
pub mod Loop
