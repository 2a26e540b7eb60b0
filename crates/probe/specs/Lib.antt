pub mod Performing
pub mod Piles
pub mod Probes
